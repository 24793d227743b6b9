use Rattle.std.proofs.Common.{rules, Some, sym, refl}
use Rattle.sitelog.proofs.Places.{read_at}
use Rattle.sitelog.proofs.site.Site.empty.Goals as goal

pub returns : goal.returns
returns c =
    let m = c.in_ok-mounted.mounted.now in
    record {
      mounted = m;
      mounted' = c.empty.new.self;
      place = record { there = read_at c.args.self.now c.args.place.index c.index-self-place.result (Some m) (search rules) (sym c.in_ok-mounted.ensures.value); carriers = refl };
      means = c.empty.ensures;
      adapter = refl;
    }
