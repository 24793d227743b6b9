-- Where moments rise, what is left at the front is all that is not before. Assumes nothing.
use Rattle.std.proofs.Common.{◌≡◌, ℕ, suc, Bool, true, ltb, leb, List, [], ◌∷◌, filter, sym, refl, ap, ⊎_elim, arith}
use Rattle.std.proofs.ByRecursion.{All-from_get_or}
use Rattle.std.proofs.lemmas.List.Sorted.{IsNonDecreasingBy-drop}
use Rattle.std.proofs.lemmas.Bool.{cond_both, cases_lt, lt-ltb, le-ltb, le-leb, lt-leb}
use Rattle.std.specs.List.{AllByRecursion as All}
use Rattle.std.specs.List.Sorted.{IsNonDecreasingBy}
use Rattle.waiting.specs.Waiting.{from_on, not_before}

module _ {T : Type 0} where
  kept_by_all : (p : T → Bool) (xs : List T) → All (λ x. p x ≡ true) xs → filter p xs ≡ xs
  kept_by_all p [] h = refl
  kept_by_all p (x ∷ xs) h = rw h.0 (ap (λ l. x ∷ l) (kept_by_all p xs h.1))

  module _ (moment : T → ℕ) (since : ℕ) where
    rises_tail : (x : T) (xs : List T) → IsNonDecreasingBy moment (x ∷ xs) → IsNonDecreasingBy moment xs
    rises_tail x xs up = IsNonDecreasingBy-drop moment 1 (x ∷ xs) up

    -- where moments rise, all that stand behind one that is not before are not before
    pub from_on_filters : (xs : List T) → IsNonDecreasingBy moment xs → from_on moment since xs ≡ not_before moment since xs
    from_on_filters [] up = refl
    from_on_filters (x ∷ xs) up =
        ⊎_elim
        (λ before. rw (lt-ltb (moment x) since before, lt-leb since (moment x) before) (from_on_filters xs (rises_tail x xs up)))
        (λ after.
        let later : All (λ y. leb since (moment y) ≡ true) xs =
        All-from_get_or _ xs x (λ i h. le-leb since _ (omega (arith, up 0 (suc i) x (omega arith) (omega arith)))) in
        rw (le-ltb (moment x) since after, le-leb since (moment x) after) (ap (λ l. x ∷ l) (sym (kept_by_all _ xs later))))
        (cases_lt (moment x) since)

    pub from_on_rises : (xs : List T) → IsNonDecreasingBy moment xs → IsNonDecreasingBy moment (from_on moment since xs)
    from_on_rises [] up = up
    from_on_rises (x ∷ xs) up =
        cond_both (ltb (moment x) since) (from_on moment since xs) (x ∷ xs) (IsNonDecreasingBy moment) (λ before. from_on_rises xs (rises_tail x xs up)) (λ after. up)
