use Rattle.memory.specs.Memory.{lines_in, OnlyLines}
use Rattle.adapter.proofs.Letting.{Cut-below}
use Rattle.adapter.proofs.state.lines.let_go.Given as goal

abbrev pub invariant-loop-p : goal.invariant-loop-p
invariant-loop-p l = Cut-below l.since l.p (lines_in l.initial.memory) (lines_in l.memory) × OnlyLines l.initial.memory l.memory
