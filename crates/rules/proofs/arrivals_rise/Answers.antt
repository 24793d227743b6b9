use Rattle.rules.proofs.Hearing.{after_rises}
use Rattle.rules.proofs.arrivals_rise.Goals as goal

pub returns : goal.returns
returns c = after_rises
