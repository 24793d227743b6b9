use Rattle.std.proofs.Common.{take}
use Rattle.carrier.specs.Meaning.{Carried}
use Rattle.carrier_tests.proofs.copies.copy_all.Given as goal

abbrev pub invariant-loop-i : goal.invariant-loop-i
invariant-loop-i g l = Carried (take l.i (g.F.Carrier.meaning l.from).packets) (g.T.Carrier.meaning l.initial.to) (g.T.Carrier.meaning l.to)
