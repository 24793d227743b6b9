use Rattle.std.proofs.Common.{◌≡◌, ◌-◌, ◌*◌, ◌/◌, ◌∙◌, arith}
use Rattle.adapter.proofs.Admissions.{use_no}
use Rattle.adapter.proofs.place.slots.copy_at.Goals as goal

pub loop-i-preserved : goal.loop-i-preserved
loop-i-preserved c = (
  c.loop-i.invariant.0
      ∙ use_no c.args.frame.now.slots c.copies-copies.result c.args.slot c.loop-i.i (omega arith)
      (λ (e : (c.loop-i.i - 1) * c.args.frame.now.slots / c.copies-copies.result ≡ c.args.slot). c.if-from.false (cc)),
  omega (arith, c.loop-i.invariant.1),
)
