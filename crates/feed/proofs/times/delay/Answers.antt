use Rattle.std.proofs.Common.{rules}
use native.Mathlib.Nat.{div-zero}
use Rattle.rules.specs.Times.{after}
use Rattle.feed.proofs.times.delay.Goals as goal

pub returns : goal.returns
unfolding after
returns c = search (rules, div-zero)
