use Rattle.std.proofs.Common.{Some, sym, ap, ◌∙◌, inl, inr, ⊎_elim, arith}
use Rattle.config.proofs.Numbers.{wrong_length, leading_zero, no_digit, right_number, sofar_none, sofar_stops, sofar_all}
use Rattle.config.proofs.number.number.Goals as goal
use Rattle.config.proofs.number.number.Goals.{else-digits-gt1-via-then-digits-gt1+else-field-eq48, else-digits-gt1-via-else-digits-gt1}

pub returns-then-digits-eq0 : goal.returns-then-digits-eq0
returns-then-digits-eq0 c = sym (wrong_length c.args.field.now (⊎_elim inl (λ h. inr h.1) c.then-digits-eq0.either))

pub returns-then-field-eq48 : goal.returns-then-field-eq48
returns-then-field-eq48 c = sym (leading_zero c.args.field.now c.if-digits-gt1.true c.if-field-eq48.true)

pub loop-b-init : goal.loop-b-init
loop-b-init c = sofar_none _

pub returns-then-not-is_ascii_digit : goal.returns-then-not-is_ascii_digit
returns-then-not-is_ascii_digit c =
    sym (no_digit c.args.field.now (sofar_stops c.args.field.now c.loop-b.b-index c.loop-b.n c.loop-b-test.true c.loop-b.invariant c.if-not-is_ascii_digit.ensures.cases))

pub returns : goal.returns
returns c =
    let done = sofar_all c.args.field.now c.loop-b.b-index c.loop-b.n c.loop-b-test.false c.loop-b.invariant in
    ap Some (sym done.1)
    ∙ sym (right_number c.args.field.now (omega (arith, c.if-digits-eq0.false)) c.if-digits-gt10.false
    (elim c.else-digits-gt1.branch [
      | else-digits-gt1-via-then-digits-gt1+else-field-eq48 w ↦ λ _ first. w.if-field-eq48.false first
      | else-digits-gt1-via-else-digits-gt1 w ↦ λ more _. omega (arith, w.if-digits-gt1.false)
    ])
    done.0)
