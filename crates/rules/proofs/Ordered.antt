-- Lines in order of arrival.
use Rattle.std.proofs.Common.{◌≡◌, ℕ, ◌<◌, ◌≤◌, Bool, true, false, cond, ltb, List, [], ◌∷◌, ◌++◌, sym, refl, ap, ◌∙◌, ⊎_elim, arith}
use Rattle.std.proofs.lemmas.Bool.{lt-ltb, le-ltb, le-leb, lt-leb, cases_lt, cond-true, cond-false, and_left, and_right, and_from}
use Rattle.rules.specs.Entries.{Entry, before, from_on}
use Rattle.rules.specs.Log.{within}

-- every one arrives after a
abbrev pub Above : ℕ → List Entry → Type 0
Above a [] = Unit {0}
Above a (e ∷ es) = (a < e.arrival) × Above a es

abbrev pub Rises : List Entry → Type 0
Rises [] = Unit {0}
Rises (e ∷ es) = Above e.arrival es × Rises es

abbrev pub Atmost : ℕ → List Entry → Type 0
Atmost a [] = Unit {0}
Atmost a (e ∷ es) = (e.arrival ≤ a) × Atmost a es

above_push : (a : ℕ) (l : List Entry) (e : Entry) → Above a l → a < e.arrival → Above a (l ++ e ∷ [])
above_push a [] e h k = (k, tt)
above_push a (x ∷ l) e h k = (h.0, above_push a l e h.1 k)

pub rises_push : (l : List Entry) (e : Entry) (a : ℕ) → Rises l → Atmost a l → a < e.arrival → Rises (l ++ e ∷ [])
rises_push [] e a h t k = (tt, tt)
rises_push (x ∷ l) e a h t k = (above_push x.arrival l e h.0 (omega (arith, t.0)), rises_push l e a h.1 t.1 k)

pub atmost_more : (a b : ℕ) (l : List Entry) → a ≤ b → Atmost a l → Atmost b l
atmost_more a b [] h t = tt
atmost_more a b (x ∷ l) h t = (omega (arith, t.0), atmost_more a b l h t.1)

pub atmost_push : (a : ℕ) (l : List Entry) (e : Entry) → Atmost a l → e.arrival ≤ a → Atmost a (l ++ e ∷ [])
atmost_push a [] e t k = (k, tt)
atmost_push a (x ∷ l) e t k = (t.0, atmost_push a l e t.1 k)

-- one more at the end, not before the moment
pub from_on_push : (m : ℕ) (l : List Entry) (e : Entry) → m ≤ e.arrival → from_on m (l ++ e ∷ []) ≡ from_on m l ++ e ∷ []
from_on_push m [] e h = cond-false _ _ _ (le-ltb _ _ h)
from_on_push m (x ∷ l) e h = by (ltb x.arrival m) (from_on_push m l e h)
  where
    by : (t : Bool) → from_on m (l ++ e ∷ []) ≡ from_on m l ++ e ∷ [] → cond t (from_on m (l ++ e ∷ [])) (x ∷ l ++ e ∷ []) ≡ cond t (from_on m l) (x ∷ l) ++ e ∷ []
    by true ih = ih
    by false ih = refl

pub from_on_twice : (a b : ℕ) (l : List Entry) → a ≤ b → from_on b (from_on a l) ≡ from_on b l
from_on_twice a b [] h = refl
from_on_twice a b (x ∷ l) h =
    ⊎_elim
    (λ lt. ap (from_on b) (cond-true _ _ _ (lt-ltb _ _ lt)) ∙ from_on_twice a b l h ∙ sym (cond-true _ _ _ (lt-ltb x.arrival b (omega arith))))
    (λ ge. ap (from_on b) (cond-false _ _ _ (le-ltb _ _ ge)))
    (cases_lt x.arrival a)

within_none : (b e a : ℕ) (l : List Entry) → e ≤ a → Above a l → within b e l ≡ []
within_none b e a [] h t = refl
within_none b e a (x ∷ l) h t = cond-false _ _ _ (and_right _ _ (le-ltb x.arrival e (omega (arith, t.0)))) ∙ within_none b e a l h t.1

within_later : (b e a : ℕ) (l : List Entry) → b ≤ a → Above a l → Rises l → within b e l ≡ before e l
within_later b e a [] h t r = refl
within_later b e a (x ∷ l) h t r =
    ⊎_elim
    (λ lt. cond-true _ _ _ (and_from _ _ (le-leb b x.arrival (omega (arith, t.0))) (lt-ltb _ _ lt)) ∙ ap (λ y. x ∷ y) (within_later b e x.arrival l (omega (arith, t.0)) r.0 r.1) ∙ sym (cond-true _ _ _ (lt-ltb _ _ lt)))
    (λ ge. cond-false _ _ _ (and_right _ _ (le-ltb _ _ ge)) ∙ within_none b e x.arrival l ge r.0 ∙ sym (cond-false _ _ _ (le-ltb _ _ ge)))
    (cases_lt x.arrival e)

-- what arrives in between is what is left when what came before is let go, up to the end
pub within_is : (b e : ℕ) (l : List Entry) → Rises l → within b e l ≡ before e (from_on b l)
within_is b e [] r = refl
within_is b e (x ∷ l) r =
    ⊎_elim
    (λ lt. cond-false _ _ _ (and_left _ _ (lt-leb b x.arrival lt)) ∙ within_is b e l r.1 ∙ ap (before e) (sym (cond-true _ _ _ (lt-ltb _ _ lt))))
    (λ ge. start ge ∙ ap (before e) (sym (cond-false _ _ _ (le-ltb _ _ ge))))
    (cases_lt x.arrival b)
  where
    start : b ≤ x.arrival → within b e (x ∷ l) ≡ before e (x ∷ l)
    start ge =
        ⊎_elim
        (λ lt. cond-true _ _ _ (and_from _ _ (le-leb _ _ ge) (lt-ltb _ _ lt)) ∙ ap (λ y. x ∷ y) (within_later b e x.arrival l ge r.0 r.1) ∙ sym (cond-true _ _ _ (lt-ltb _ _ lt)))
        (λ over. cond-false _ _ _ (and_right _ _ (le-ltb _ _ over)) ∙ within_none b e x.arrival l over r.0 ∙ sym (cond-false _ _ _ (le-ltb _ _ over)))
        (cases_lt x.arrival e)
