use Rattle.carrier.proofs.Stored.{strip_vacant}
use Rattle.carrier.proofs.strip.carries.StripCarrier.empty.Goals as goal

pub returns : goal.returns
returns c = strip_vacant c.clear.new.self _ c.clear.ensures.size c.clear.ensures.used
