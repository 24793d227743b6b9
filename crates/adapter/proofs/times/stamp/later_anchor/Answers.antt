use Rattle.std.proofs.Common.{refl, ⊎_elim, arith}
use Rattle.rules.specs.Times.{later_anchor, too_late, not_after}
use Rattle.adapter.proofs.times.stamp.later_anchor.Goals as goal

pub returns-then-at-gt-LATEST : goal.returns-then-at-gt-LATEST
returns-then-at-gt-LATEST c =
    λ rate line. ⊎_elim (λ h. too_late c.args.at refl h) (λ h. not_after _ c.args.at refl refl h.1) c.then-at-gt-LATEST.either

pub returns : goal.returns
returns c = λ rate line. later_anchor _ c.args.at refl refl (omega arith) (omega arith) refl
