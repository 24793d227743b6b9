use Rattle.std.proofs.Common.{rules, Some, sym, refl}
use Rattle.sitelog.proofs.Places.{read_at}
use Rattle.sitelog.proofs.site.Site.frame.Goals as goal

pub returns : goal.returns
returns c =
    let m = c.in_ok-mounted.mounted.now in
    record {
      mounted = m;
      mounted' = c.frame.new.carrier;
      place = record { there = read_at c.args.self.now c.args.place.index c.index-self-place.result (Some m) (search rules) (sym c.in_ok-mounted.ensures.value); carriers = refl };
      rule = c.frame.ensures.rule;
      same = c.frame.ensures.same;
      clear = c.frame.ensures.clear;
      equal = c.frame.ensures.equal;
    }
