use Rattle.std.proofs.Common.{◌≡◌, ◌≤◌}
use Rattle.rules.specs.Slots.{use_among}
use Rattle.adapter.proofs.place.slots.copy_at.Given as goal

abbrev pub invariant-loop-i : goal.invariant-loop-i
invariant-loop-i l =
    (use_among l.frame.slots l.copies l.slot l.copies ≡ use_among l.frame.slots l.copies l.slot l.i)
    × (l.i ≤ l.copies)
