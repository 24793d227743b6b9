use Rattle.memory.proofs.Memory.let_front_go.Goals as goal
use Rattle.memory.proofs.Shares.{moved_only_backlog}

pub returns-clause-rest : goal.returns-clause-rest
returns-clause-rest g c = moved_only_backlog c.args.self.now c.take.new.self
