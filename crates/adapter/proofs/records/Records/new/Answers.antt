use Rattle.adapter.specs.Queue.{waiting_in}
use Rattle.adapter.proofs.records.Records.new.Goals as goal

pub returns-clause-waits : goal.returns-clause-waits
unfolding waiting_in
returns-clause-waits c = c.new.ensures _
