use Rattle.rules.proofs.Outcomes.{hear_has_one, loss_has_one, record_has_one}
use Rattle.rules.proofs.FrameOutcome.{frame_has_one}
use Rattle.rules.proofs.calls_are_determined.Goals as goal

pub returns : goal.returns
returns c = record { hear = hear_has_one; loss = loss_has_one; records = record_has_one; frame = frame_has_one }
