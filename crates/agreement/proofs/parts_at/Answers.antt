use Rattle.std.proofs.Common.{◌≡◌, cond, eqb, min, length, Some, None, sym, ap, ap₂, ◌∙◌, subst}
use Rattle.std.proofs.lemmas.Bool.{cond-true, cond-false, eq-eqb, ne_eqb}
use Rattle.std.specs.Option.{option_or}
use Rattle.agreement.specs.Agreement.{PartsAt}
use Rattle.agreement.proofs.Slots.{parts_zipped}
use Rattle.agreement.proofs.parts_at.Goals as goal
use Rattle.agreement.proofs.parts_at.Goals.{then-x-y, else-x-y}

pub returns : goal.returns
returns c =
    let x = c.args.x.now in
    let y = c.args.y.now in
    let end : c.if-x-y.end ≡ cond (eqb (length x) (length y)) None (Some (min (length x) (length y))) = elim c.if-x-y.branch [
      | then-x-y w ↦ w.end-is ∙ sym (cond-true _ _ _ (eq-eqb _ _ w.if-x-y.true))
      | else-x-y w ↦ w.end-is ∙ ap Some w.min.ensures ∙ sym (cond-false _ _ _ (ne_eqb _ _ w.if-x-y.false))
    ] in
    subst (PartsAt x y) (sym (c.or.ensures ∙ ap₂ option_or c.first_other.ensures end)) (parts_zipped x y)
