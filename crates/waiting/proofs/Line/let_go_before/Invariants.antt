use Rattle.std.proofs.Common.{◌≡◌, length}
use Rattle.waiting.proofs.Line.let_go_before.Given as goal
use Rattle.waiting.specs.Waiting.{waits, from_on}

-- what is to be left is left of what still waits
abbrev pub invariant-loop-since : goal.invariant-loop-since
invariant-loop-since g l = let m = g.T.Moment.moment in from_on m l.since (waits l.self l.slots) ≡ from_on m l.since (waits l.initial.self l.slots)

abbrev pub decreases-loop-since : goal.decreases-loop-since
decreases-loop-since g l = length (waits l.self l.slots)
