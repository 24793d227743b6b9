use Rattle.memory.specs.Memory.{lines_in}
use Rattle.adapter.proofs.Nexts.{Best}
use Rattle.adapter.proofs.place.slots.next_line.Given as goal

abbrev pub invariant-loop-p : goal.invariant-loop-p
invariant-loop-p l = Best l.limit l.p (lines_in l.memory) l.bound l.next
