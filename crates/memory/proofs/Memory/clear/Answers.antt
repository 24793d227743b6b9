use Rattle.memory.proofs.Memory.clear.Goals as goal
use Rattle.memory.proofs.Shares.{moved_only}

pub returns-then-p-parents-clause-rest : goal.returns-then-p-parents-clause-rest
returns-then-p-parents-clause-rest g c = moved_only c.args.self.now c.let_all_go.new.self c.args.p
