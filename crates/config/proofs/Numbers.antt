-- What a field's bytes say of its number.
use Rattle.std.proofs.Common.{◌≡◌, ℕ, ◌^◌, ◌<◌, ◌≤◌, Bool, true, false, cond, not, ◌&&◌, ◌||◌, eqb, ltb, leb, ◌⊎◌, length, get_or, drop, Some, None, Option, refl, ◌∙◌, inl, inr, ⊎_elim, arith}
use Rattle.std.proofs.lemmas.List.{at_drop_more, at_drop_all}
use Rattle.std.proofs.lemmas.Bool.{eq-eqb, ne_eqb, lt-ltb, le-ltb, le-leb, lt-leb, and_left, and_right, and_from, or_left, or_right, cond-true, not_from_false, cases_eq, cases_lt}
use Rattle.config.specs.declared.fault.TextRefusal.{TextRefusal}
use Rattle.config.specs.declared.fault.TextRefusal.TheVariants.{Form, Range}
use Rattle.config.specs.Layout.{within}
use Rattle.config.specs.Rows.{Between}
use Rattle.config.specs.Text.{Bytes, is_digit, all_digits, is_number, written_after, written, number}

-- no number, since its length, its first digit or one of its bytes is wrong
pub wrong_length : (f : Bytes) → (length f ≡ 0) ⊎ (10 < length f) → number f ≡ None
unfolding number is_number
wrong_length f (inl none) = let low : length f ≤ 0 = omega arith in rw (le-ltb 0 (length f) low) refl
wrong_length f (inr long) = let low : 0 < length f = omega arith in rw (lt-ltb 0 (length f) low, lt-leb (length f) 10 long) refl

zero_leads : (f : Bytes) → 1 < length f → get_or f 0 0 ≡ 48 → (eqb (length f) 1 || not (eqb (get_or f 0 0) 48)) ≡ false
zero_leads f more first = let long : length f ≡ 1 → ⊥ = omega arith in rw (ne_eqb (length f) 1 long, eq-eqb (get_or f 0 0) 48 first)

not_number : (f : Bytes) → is_number f ≡ false → number f ≡ None
unfolding number
not_number f e = rw e

pub leading_zero : (f : Bytes) → 1 < length f → get_or f 0 0 ≡ 48 → number f ≡ None
unfolding is_number
leading_zero f more first =
    not_number f (and_right (ltb 0 (length f) && leb (length f) 10) _ (and_right (all_digits f) _ (zero_leads f more first)))

pub no_digit : (f : Bytes) → all_digits f ≡ false → number f ≡ None
unfolding is_number
no_digit f bad = not_number f (and_right _ _ (and_left _ _ bad))

pub right_number : (f : Bytes) → 0 < length f → length f ≤ 10 → (1 < length f → get_or f 0 0 ≡ 48 → ⊥) → all_digits f ≡ true → number f ≡ Some (written f)
unfolding number is_number
right_number f some short first digits =
    cond-true _ _ _
    (and_from _ _
    (and_from _ _ (lt-ltb 0 (length f) some) (le-leb (length f) 10 short))
    (and_from _ _ digits
    (⊎_elim
    (λ (one : length f ≡ 1). or_left _ _ (eq-eqb (length f) 1 one))
    (λ more. or_right _ _ (not_from_false _ (ne_eqb (get_or f 0 0) 48 (first (omega arith)))))
    (cases_eq (length f) 1))))

-- the first i bytes are digits, and write n
pub record Sofar (f : Bytes) (i n : ℕ) : Type 0 where
  pub digits : all_digits f ≡ all_digits (drop i f)
  pub value : written f ≡ written_after n (drop i f)
  pub small : n < 10 ^ i

pub sofar_none : (f : Bytes) → Sofar f 0 0
unfolding written
sofar_none f = record { digits = refl; value = refl; small = omega arith }

module _ (f : Bytes) (i n : ℕ) (within : i < length f) (sofar : Sofar f i n) where
  pub sofar_stops : (get_or f i 0 < 48) ⊎ (57 < get_or f i 0) → all_digits f ≡ false
  sofar_stops out =
      let bad : is_digit (get_or f i 0) ≡ false =
      ⊎_elim (λ low. and_left _ _ (lt-leb 48 _ low)) (λ high. and_right _ _ (lt-leb _ 57 high)) out
      in
      sofar.digits ∙ at_drop_more all_digits f i 0 within ∙ rw bad

pub sofar_all : (f : Bytes) (i n : ℕ) → length f ≤ i → Sofar f i n → (all_digits f ≡ true) × (written f ≡ n)
sofar_all f i n past sofar = (sofar.digits ∙ at_drop_all all_digits f i past, sofar.value ∙ at_drop_all (written_after n) f i past)

-- A number is in its range or not.
pub no_number : (low high : ℕ) (f : Bytes) → number f ≡ None → within low high f ≡ Some Form
unfolding within
no_number low high f e = rw e

pub is_written : (n : ℕ) (f : Bytes) → number f ≡ Some n → written f ≡ n
unfolding number
is_written n f is = written_by (is_number f) is
  where
    written_by : (b : Bool) → cond b (Some (written f)) None ≡ Some n → written f ≡ n
    written_by true e = cc
    written_by false e = absurd (let z : ◌≡◌ {A = ℕ} 0 1 = cc in omega arith)

module _ (low high n : ℕ) (f : Bytes) (is : number f ≡ Some n) where
  pub in_range : low ≤ n → n ≤ high → within low high f ≡ None
  unfolding within
  in_range least most = rw (is, le-leb low n least, le-leb n high most) refl

  pub out_of_range : (n < low) ⊎ (high < n) → within low high f ≡ Some Range
  unfolding within
  out_of_range out =
      let bad : (leb low n && leb n high) ≡ false =
      ⊎_elim (λ less. and_left _ _ (lt-leb low n less)) (λ more. and_right _ _ (lt-leb n high more)) out
      in
      rw (is, bad) refl

-- what a right field says of its number
pub range_known : (low high : ℕ) (f : Bytes) → within low high f ≡ None → Between low high (written f)
range_known low high f right = by (number f) refl
  where
    never : {e : TextRefusal} → within low high f ≡ Some e → ⊥
    never wrong = let z : ◌≡◌ {A = ℕ} 0 1 = cc in omega arith

    by : (o : Option ℕ) → number f ≡ o → Between low high (written f)
    by None is = absurd (never (no_number low high f is))
    by (Some n) is =
        let value = is_written n f is in (
          ⊎_elim (λ less. absurd (never (out_of_range low high n f is (inl less)))) (λ ok. omega arith) (cases_lt n low),
          ⊎_elim (λ more. absurd (never (out_of_range low high n f is (inr more)))) (λ ok. omega arith) (cases_lt high n),
        )
