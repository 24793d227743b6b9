use Rattle.std.proofs.Common.{◌<◌, [], length, sym, refl, ◌∙◌, subst, arith}
use Rattle.std.proofs.lemmas.List.{take_more, take_all, length-take-le, get_or_default}
use Rattle.std.proofs.lemmas.Result.{IfOk-from_err}
use Rattle.psi.specs.Packet.{Framed}
use Rattle.carrier.proofs.Carrying.{carried_more, not_refused}
use Rattle.carrier_tests.proofs.copies.copy_all.Goals as goal

pub returns-in_err-put : goal.returns-in_err-put
returns-in_err-put g c =
    let ps = (g.F.Carrier.meaning c.args.from.now).packets in
    let i = c.loop-i.i in
    let within : i < length ps = omega arith in
    record {
      all = IfOk-from_err _ _ c.from_residual.ensures.0;
      enough = λ framed places.
          let good : Framed c.read.new.place = subst Framed (get_or_default ps i [] _ within ∙ sym c.read.ensures.after) (framed i within) in
          absurd (not_refused _ _ _ good (omega (arith, length-take-le i ps (omega arith))) c.in_err-put.ensures.answer);
    }

pub loop-i-preserved : goal.loop-i-preserved
loop-i-preserved g c =
    let ps = (g.F.Carrier.meaning c.args.from.now).packets in
    let i = c.loop-i.i in
    let one_more = take_more ps i c.loop-i.packet (omega arith) in
    let read = c.read.ensures.after in
    let taken = c.in_ok-put.ensures.taken in
    rw one_more (carried_more c.loop-i.invariant (rw read at taken))

pub returns : goal.returns
returns g c =
    let ps = (g.F.Carrier.meaning c.args.from.now).packets in
    record {
      all = rw (take_all c.loop-i.i ps (omega arith)) at c.loop-i.invariant;
      enough = λ framed places. refl;
    }
