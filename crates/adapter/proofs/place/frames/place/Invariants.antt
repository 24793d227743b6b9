use Rattle.config.specs.Setup.{setup}
use Rattle.adapter.proofs.Turns.{Going}
use Rattle.adapter.proofs.place.frames.place.Given as goal

abbrev pub invariant-loop-slot : goal.invariant-loop-slot
invariant-loop-slot g l =
    Going g.C.Carrier.meaning (setup l.config) l.frame l.doubt l.adding l.initial.memory l.memory
    l.initial.carrier l.carrier l.course l.slot
