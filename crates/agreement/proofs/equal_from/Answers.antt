use Rattle.std.proofs.Common.{◌+◌, sym, ◌∙◌, subst, rules, tests}
use Rattle.std.specs.List.{list_any}
use Rattle.std.proofs.lemmas.Iterator.{YieldsList-from_slice, YieldsList-from_map}
use Rattle.std.proofs.lemmas.Iterator.Adapters.{option_map_id}
use Rattle.std.proofs.lemmas.Iterator.Consumers.{YieldsList-at, YieldsList-from_filter, max_from_yields_List}
use Rattle.agreement.specs.Agreement.{EqualFrom, differ_in}
use Rattle.agreement.proofs.Numbers.{equal_from_greatest}
use Rattle.agreement.proofs.equal_from.Goals as goal

pub returns : goal.returns
returns c =
    let first = c.args.first.now in
    let second = c.args.second.now in
    subst (EqualFrom first second) (sym c.unwrap_or.ensures)
    (equal_from_greatest first second c.max.result
    (sym (option_map_id c.max.result)
    ∙ max_from_yields_List _ _ c.max.ensures.ran
    (YieldsList-from_map _ (λ x. x.number + 1)
    (YieldsList-at c.map.ensures.source
    (YieldsList-from_filter _ (λ x. list_any (differ_in x) second) (YieldsList-from_slice first cc) c.filter-unequal.ensures.closure (λ x r q k. search (rules, tests))))
    c.map.ensures.closure (λ x r q k. search (rules, tests)))))
