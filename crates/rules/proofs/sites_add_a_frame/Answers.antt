use Rattle.rules.proofs.Sites.{two_sites}
use Rattle.rules.proofs.sites_add_a_frame.Goals as goal

pub returns : goal.returns
returns c = two_sites
