-- The carrier at a place of a site, as an index reads it.
use Rattle.std.proofs.Common.{◌≡◌, ℕ, ◌<◌, length, slice_index_or, None, Option, ◌∙◌}
use Rattle.std.proofs.lemmas.List.{get_or_default}
use Rattle.sitelog.specs.Sites.{carriers_of, carrier_at}
use Rattle.sitelog.specs.declared.mounted.Mounted.{Mounted}
use Rattle.sitelog.specs.declared.site.Site.{Site}

pub read_at : (site : Site) (p : ℕ) (x r : Option Mounted) → p < length (carriers_of site) → slice_index_or (carriers_of site) p x ≡ r → carrier_at site p ≡ r
read_at site p x r lt is = get_or_default (carriers_of site) p None x lt ∙ is
