use Rattle.std.proofs.Common.{◌≡◌, ◌+◌, ◌≤◌, map, length}
use Rattle.memory.specs.Memory.{lines_in, backlog_in, size_in, SameShares}
use Rattle.rules.proofs.Merging.{Rising}
use Rattle.rules.proofs.Placing.{Admitting}
use Rattle.rules.specs.Entries.{merged, from_on}
use Rattle.adapter.proofs.place.slots.admit_before.Given as goal

abbrev pub invariant-loop-p : goal.invariant-loop-p
invariant-loop-p l =
    Admitting (size_in l.initial.memory) l.limit (backlog_in l.initial.memory) l.initial.course.drops l.initial.course.doubt (merged (lines_in l.initial.memory))
    (backlog_in l.memory) l.course.drops l.course.doubt (merged (lines_in l.memory))
    × Rising (lines_in l.memory)
    × (map (from_on l.limit) (lines_in l.memory) ≡ map (from_on l.limit) (lines_in l.initial.memory))
    × (l.course.drops + length (merged (lines_in l.memory)) ≤ l.initial.course.drops + length (merged (lines_in l.initial.memory)))
    × (l.course.zero ≡ l.initial.course.zero)
    × SameShares l.initial.memory l.memory

abbrev pub decreases-loop-p : goal.decreases-loop-p
decreases-loop-p l = length (merged (lines_in l.memory))
