use Rattle.memory.proofs.Memory.let_go_before.Goals as goal
use Rattle.memory.proofs.Shares.{moved_only}

pub returns-in-Some-clause-rest : goal.returns-in-Some-clause-rest
returns-in-Some-clause-rest g c = moved_only c.args.self.now c.let_go_before.new.self c.args.p
