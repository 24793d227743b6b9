use Rattle.std.proofs.Common.{◌+◌, refl, ap, arith}
use Rattle.rules.specs.Times.{counted, too_many}
use Rattle.adapter.proofs.times.stamp.count_on.Goals as goal

pub returns-then-times-ge-MOST : goal.returns-then-times-ge-MOST
returns-then-times-ge-MOST c = λ line. too_many _ refl refl (omega arith)

pub returns : goal.returns
returns c =
    λ line.
    counted _ refl refl (omega arith)
    (ap (λ d. record { arrival = c.args.times.anchor + d; anchor = c.args.times.anchor; count = c.args.times.count + 1; from = c.args.times.from }) c.delay.ensures.value)
