use Rattle.std.proofs.Common.{◌≡◌, ◌-◌, arith}
use Rattle.memory.proofs.Memory.admit.Goals as goal
use Rattle.memory.proofs.Shares.{written_only_backlog}
use Rattle.memory.specs.Memory.{size_in}

pub returns-clause-rest : goal.returns-clause-rest
returns-clause-rest g c =
    let m = c.args.self.now in
    let all : c.size-size.result - 0 ≡ size_in m = omega arith in
    written_only_backlog m c.join.new.self _ c.deref_mut.result.now c.join.new.slots all c.deref_mut.ensures.value c.join.auto.slots
