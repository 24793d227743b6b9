use Rattle.rules.proofs.Cases.{worked_cases}
use Rattle.rules.proofs.worked_cases_hold.Goals as goal

pub returns : goal.returns
returns c = worked_cases
