use Rattle.config.proofs.Pieces.{Spaces}
use Rattle.config.proofs.fields.Fields.count.Given as goal

abbrev pub invariant-loop-b : goal.invariant-loop-b
invariant-loop-b l = Spaces l.self.bytes.now l.b-index l.spaces
