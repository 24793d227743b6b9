use Rattle.rules.specs.Times.{after}
use Rattle.adapter.proofs.times.stamp.delay.Goals as goal

pub returns-clause-value : goal.returns-clause-value
unfolding after
returns-clause-value c = let count = c.from.ensures in let rate = c.from-2.ensures in cc
