use Rattle.carrier.proofs.Stored.{strip_vacant}
use Rattle.carrier.proofs.strip.Strip.new.Goals as goal

pub returns : goal.returns
returns c = strip_vacant c.new.result _ c.new.ensures.size c.new.ensures.used
