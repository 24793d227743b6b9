use Rattle.config.proofs.Numbers.{Sofar}
use Rattle.config.proofs.number.number.Given as goal

abbrev pub invariant-loop-b : goal.invariant-loop-b
invariant-loop-b l = Sofar l.field l.b-index l.n
