use Rattle.std.proofs.Common.{◌+◌, ap, ◌∙◌, lit<}
use Rattle.carrier.specs.Pieces.{cut}
use Rattle.carrier.specs.Stores.{written}
use Rattle.carrier.proofs.Cuts.{cut_push}
use Rattle.carrier.proofs.Stored.{whole_written, housed_carried}
use Rattle.carrier.proofs.strip.carries.StripCarrier.put.Goals as goal

pub returns-clause-taken : goal.returns-clause-taken
returns-clause-taken c =
    let self = c.args.self.now in
    let s = self.store in
    let t = c.append.new.self in
    let x = c.args.packet.now in
    let long = c.in_ok-admit.ensures.framed.long in
    housed_carried 188 (lit< tt) s t c.append.ensures.size (c.append.ensures.used ∙ ap (λ n. s.used + n) long) x _ _
    (ap (cut 188) c.append.ensures.written ∙ cut_push 188 (lit< tt) (written s) x (whole_written 188 s self.whole) long)
