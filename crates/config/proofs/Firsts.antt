-- The first answer of a row of them.
use Rattle.std.proofs.Common.{◌≡◌, ℕ, zero, suc, ◌+◌, ◌<◌, ◌≤◌, Some, None, Option, sym, refl, ap, ◌∙◌, subst, ⊎_elim, add-one, arith}
use Rattle.std.specs.Option.{option_or}
use Rattle.std.proofs.lemmas.Bool.{cases_lt}
use Rattle.config.specs.Verdict.{first}
use Rattle.config.proofs.Lines.{or_other_none}

module _ {X : Type 0} (f : ℕ → Option X) where
  -- one that is none is passed over
  pub first_step : (k n : ℕ) → f k ≡ None → first f k (suc n) ≡ first f (k + 1) n
  first_step k n none = ap (λ o. option_or o (first f (suc k) n)) none ∙ ap (λ j. first f j n) (sym (add-one k))

  pub first_here : (k n : ℕ) (x : X) → f k ≡ Some x → first f k (suc n) ≡ Some x
  first_here k n x is = ap (λ o. option_or o (first f (suc k) n)) is

  from : (k n at : ℕ) (x : X) → k ≤ at → at < k + n → ((j : ℕ) → k ≤ j → j < at → f j ≡ None) → f at ≡ Some x → first f k n ≡ Some x
  from k zero at x low high before is = absurd (omega arith)
  from k (suc n) at x low high before is =
      ⊎_elim
      (λ later.
      first_step k n (before k (omega arith) later)
      ∙ from (k + 1) n at x (omega arith) (omega arith) (λ j jl jh. before j (omega arith) jh) is)
      (λ here. first_here k n x (let same : at ≡ k = omega arith in subst (λ j. f j ≡ Some x) same is))
      (cases_lt k at)

  -- the first is the one before which there is none
  pub first_some : (n at : ℕ) (x : X) → at < n → ((j : ℕ) → j < at → f j ≡ None) → f at ≡ Some x → first f 0 n ≡ Some x
  first_some n at x within before is = from 0 n at x (omega arith) (omega arith) (λ j low high. before j high) is

  none_from : (k n : ℕ) → ((j : ℕ) → k ≤ j → j < k + n → f j ≡ None) → first f k n ≡ None
  none_from k zero all = refl
  none_from k (suc n) all =
      first_step k n (all k (omega arith) (omega arith)) ∙ none_from (k + 1) n (λ j low high. all j (omega arith) (omega arith))

  pub first_none : (n : ℕ) → ((j : ℕ) → j < n → f j ≡ None) → first f 0 n ≡ None
  first_none n all = none_from 0 n (λ j low high. all j (omega arith))

  all_none : (k n j : ℕ) → first f k n ≡ None → k ≤ j → j < k + n → f j ≡ None
  all_none k zero j none low high = absurd (omega arith)
  all_none k (suc n) j none low high =
      let parts = or_other_none (f k) (first f (suc k) n) none in
      ⊎_elim
      (λ later. all_none (suc k) n j parts.1 later (omega arith))
      (λ here. let same : k ≡ j = omega arith in subst (λ i. f i ≡ None) same parts.0)
      (cases_lt k j)

  pub none_all : (n : ℕ) → first f 0 n ≡ None → (j : ℕ) → j < n → f j ≡ None
  none_all n none j lt = all_none 0 n j none (omega arith) (omega arith)
