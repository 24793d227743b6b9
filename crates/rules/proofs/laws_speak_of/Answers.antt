use Rattle.rules.proofs.Checked.{checked}
use Rattle.rules.proofs.laws_speak_of.Goals as goal

pub returns : goal.returns
returns c = checked c.args.config.now
