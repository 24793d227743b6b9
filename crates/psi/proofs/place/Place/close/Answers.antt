use Rattle.std.proofs.Common.{◌≡◌, ◌++◌, length, take, ap, ◌∙◌, arith}
use Rattle.std.proofs.lemmas.List.{length-take-le}
use Rattle.std.proofs.lemmas.Slice.{between_is}
use Rattle.psi.specs.Crc.{crc_of}
use Rattle.psi.specs.Places.{written}
use Rattle.psi.proofs.Placing.{closed_written}
use Rattle.psi.proofs.place.Place.close.Goals as goal

pub returns : goal.returns
returns c =
    let p = c.args.self.now in
    let q = c.set_length.new.self in
    let all : length (take p.len p.bytes) ≡ p.len = length-take-le p.len p.bytes (omega (arith, p.within, p.long)) in
    closed_written (written p) (written q) _ c.crc32-crc.result (omega (arith, c.requires.0)) c.set_length.ensures.written
    (c.crc32-crc.ensures.value ∙ ap crc_of (between_is q.bytes 5 q.len))
    (c.put_all.ensures.written ∙ ap (λ l. written q ++ l) c.to_be_bytes.ensures)
