use Rattle.std.proofs.Common.{◌∙◌}
use Rattle.adapter.specs.Queue.{waiting_in}
use Rattle.adapter.proofs.records.Records.oldest.Goals as goal

pub returns : goal.returns
unfolding waiting_in
returns c = c.copied.ensures ∙ c.peek.ensures
