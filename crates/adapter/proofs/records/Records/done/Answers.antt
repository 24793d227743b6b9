use Rattle.adapter.specs.Queue.{waiting_in}
use Rattle.adapter.proofs.Letting.{rest_is}
use Rattle.adapter.proofs.records.Records.done.Goals as goal

pub returns-clause-waits : goal.returns-clause-waits
unfolding waiting_in
returns-clause-waits c = rest_is _ _ c.take.result c.take.ensures.value c.take.ensures.rest
