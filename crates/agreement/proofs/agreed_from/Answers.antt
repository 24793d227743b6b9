use Rattle.std.proofs.Common.{leb, None, ◌∙◌, rules, tests}
use Rattle.std.proofs.lemmas.Iterator.{YieldsList-from_slice}
use Rattle.std.proofs.lemmas.Iterator.Consumers.{fold_from_yields_List}
use Rattle.agreement.specs.Agreement.{is_among}
use Rattle.agreement.proofs.Best.{next, least_by_walk}
use Rattle.agreement.proofs.Numbers.{agreed_least}
use Rattle.agreement.proofs.agreed_from.Goals as goal

pub returns : goal.returns
returns c =
    let first = c.args.first.now in
    let second = c.args.second.now in
    let from = c.equal_from-from.result in
    agreed_least first second from c.equal_from-from.ensures c.fold.result
    (fold_from_yields_List _ (next (λ x. x.number) (λ x. leb from x.number) (λ x. is_among second x.number)) None c.fold.result c.fold.ensures.ran (YieldsList-from_slice first cc) (λ a x r q k. search (rules, tests))
    ∙ least_by_walk (λ x. x.number) (λ x. leb from x.number) (λ x. is_among second x.number) first)
