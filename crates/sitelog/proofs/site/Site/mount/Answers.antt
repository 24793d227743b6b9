use Rattle.std.proofs.Common.{◌≡◌, ◌/◌, sym, refl, ap, ◌∙◌, subst}
use Rattle.carrier.specs.Meaning.{vacant}
use Rattle.sitelog.specs.Mounting.{mounted_meaning, place_bytes}
use Rattle.sitelog.proofs.site.Site.mount.Goals as goal

pub returns : goal.returns
returns c =
    let m = c.in_ok-mounted.mounted in
    let places = c.args.bytes / place_bytes c.args.kind in
    let means : mounted_meaning m ≡ vacant places = c.in_ok-mounted.ensures in
    let told : c.capacity-capacity.result ≡ places = c.capacity-capacity.ensures ∙ ap (λ k. k.capacity) means in
    record { mounted = m; carriers = refl; means = subst (λ n. mounted_meaning m ≡ vacant n) (sym told) means; enough = told; adapter = refl }
