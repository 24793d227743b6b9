use Rattle.std.proofs.Common.{◌≡◌, ◌-◌, ◌++◌, length, take, replicate, sym, ap, ◌∙◌, arith, take-append-drop, length-take-le}
use Rattle.psi.specs.Packet.{filled}
use Rattle.psi.proofs.place.Place.finish.Goals as goal

pub returns : goal.returns
unfolding filled
returns c =
    let p = c.args.self in
    let long : length (take p.len p.bytes) ≡ p.len = length-take-le p.len p.bytes (omega (arith, p.within, p.long)) in
    sym (take-append-drop p.len p.bytes)
    ∙ ap (λ l. take p.len p.bytes ++ l) (p.blank ∙ ap (λ n. replicate (188 - n) 0xFF) (sym long))
