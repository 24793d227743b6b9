use Rattle.memory.proofs.Memory.take.Goals as goal
use Rattle.memory.proofs.Shares.{moved_only}

pub returns-clause-rest : goal.returns-clause-rest
returns-clause-rest g c = moved_only c.args.self.now c.take.new.self c.args.p
