use Rattle.memory.proofs.Memory.hold.Goals as goal
use Rattle.memory.proofs.Shares.{written_only}
use Rattle.std.proofs.lemmas.Option.{MatchOption-at_some}

pub returns-clause-rest : goal.returns-clause-rest
returns-clause-rest g c =
    let here = MatchOption-at_some _ _ _ c.in_ok-region.ensures.ok_part c.region.ensures in
    written_only c.args.self.now c.args.p _ _ c.join.new.self here c.deref_mut.result.now c.join.new.slots c.deref_mut.ensures.value c.join.auto.slots
