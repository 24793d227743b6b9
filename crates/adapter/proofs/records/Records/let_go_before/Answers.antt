use Rattle.std.proofs.Common.{◌∙◌}
use Rattle.waiting.specs.Waiting.{waits}
use Rattle.adapter.specs.Queue.{waiting_in}
use Rattle.adapter.proofs.Letting.{frames_from}
use Rattle.adapter.proofs.records.Records.let_go_before.Goals as goal

pub returns-clause-waits : goal.returns-clause-waits
unfolding waiting_in
returns-clause-waits c = c.let_go_before.ensures.after ∙ frames_from c.args.since (waits c.args.self.now.line c.args.self.now.frames)
