use Rattle.std.proofs.Common.{refl, arith}
use Rattle.rules.specs.Times.{first_anchor, too_late}
use Rattle.adapter.proofs.times.stamp.first_anchor.Goals as goal

pub returns-then-at-gt-LATEST : goal.returns-then-at-gt-LATEST
returns-then-at-gt-LATEST c = λ rate. too_late c.args.at refl (omega arith)

pub returns : goal.returns
returns c = λ rate. first_anchor c.args.at refl refl (omega arith) refl
