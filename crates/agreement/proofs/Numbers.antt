-- Frames by their numbers: which differ, which both sites added, and from which number on they agree. Assumes nothing.
use Rattle.std.proofs.Common.{◌≡◌, ℕ, ◌+◌, ◌≤◌, max, min, true, false, ◌&&◌, eqb, leb, List, map, Some, None, Option, sym, ap, ◌∙◌, subst, ⊎_elim, arith}
use Rattle.std.specs.List.{Contains, filter, reduce, list_any}
use Rattle.std.specs.Option.{MatchOption, unwrap_or}
use Rattle.std.proofs.lemmas.List.Folds.{Any-from_list_any, list_any_at}
use Rattle.std.proofs.lemmas.Slice.Eq.{bytes_eq-Decides}
use Rattle.std.proofs.lemmas.Bool.{cases_lt, cases_Bool, eq-eqb, eqb-true, both_ways, le-leb, leb-true, and_parts, and_from, not-true, not_from_false, false_from_ne_true}
use Rattle.std.specs.Str.{bytes_eq}
use Rattle.agreement.specs.declared.Added.{Added}
use Rattle.agreement.specs.Agreement.{is_among, packets_in, differ_in, Differ, Alike, DiffersAmong, AlikeAmong, Common, EqualFrom, Agreed}
use Rattle.agreement.proofs.Best.{BestOf, least_of, greatest_of}

-- the test of two frames says whether they differ
differ : (x y : Added) → differ_in x y ≡ true → Differ x y
differ x y told =
    let parts = and_parts _ _ told in
    (eqb-true _ _ parts.0, λ same. both_ways (bytes_eq (packets_in x) (packets_in y)) (not-true _ parts.1) ((bytes_eq-Decides (packets_in x) (packets_in y)).1 same))

alike : (x y : Added) → differ_in x y ≡ false → Alike x y
alike x y told number =
    ⊎_elim
    (λ same. (bytes_eq-Decides (packets_in x) (packets_in y)).0 same)
    (λ other. absurd (both_ways (differ_in x y) told (and_from _ _ (eq-eqb _ _ number) (not_from_false _ other))))
    (cases_Bool (bytes_eq (packets_in x) (packets_in y)))

-- the same of one frame and some others
differs_among : (x : Added) (ys : List Added) → list_any (differ_in x) ys ≡ true → DiffersAmong x ys
differs_among x ys told =
    let at = Any-from_list_any (differ_in x) ys told in
    (at.1, (at.0, at.2, at.3), differ x at.1 at.4)

alike_among : (x : Added) (ys : List Added) → (list_any (differ_in x) ys ≡ true → ⊥) → AlikeAmong x ys
alike_among x ys none y at = alike x y (false_from_ne_true _ (λ yes. none (list_any_at (differ_in x) ys at.0 y at.1 (ap (differ_in x) at.2 ∙ yes))))

-- a number is among those of some frames exactly if one of them has it
among_has : (ys : List Added) (n : ℕ) → is_among ys n ≡ true → (y : Added) × Contains ys y × (y.number ≡ n)
among_has ys n told =
    let at = Any-from_list_any (λ (y : Added). eqb y.number n) ys told in
    (at.1, (at.0, at.2, at.3), eqb-true _ _ at.4)

is_among_has : (ys : List Added) (y : Added) → Contains ys y → is_among ys y.number ≡ true
is_among_has ys y at = list_any_at (λ (z : Added). eqb z.number y.number) ys at.0 y at.1 (eq-eqb _ _ (ap (λ (z : Added). z.number) at.2))

module _ (first second : List Added) where
  -- one above the highest number at which two frames differ
  pub equal_from_greatest : (r : Option ℕ) → r ≡ reduce max (map (λ x. x.number + 1) (filter (λ x. list_any (differ_in x) second) first)) → EqualFrom first second (unwrap_or r 0)
  equal_from_greatest r is = by r (subst (λ (o : Option ℕ). MatchOption o NoneDiffers HighestIs) (sym is) (greatest_of (λ x. x.number + 1) (λ x. list_any (differ_in x) second) first))
    where
      NoneDiffers : Type 0
      NoneDiffers = (x : Added) → Contains first x → list_any (differ_in x) second ≡ true → ⊥

      HighestIs : ℕ → Type 0
      HighestIs m = BestOf (λ m n. n ≤ m) (λ x. x.number + 1) (λ x. list_any (differ_in x) second) first m

      by : (o : Option ℕ) → MatchOption o NoneDiffers HighestIs → EqualFrom first second (unwrap_or o 0)
      by None none = (λ x has le. alike_among x second (none x has), λ n less. absurd (omega arith))
      by (Some m) highest = (
        λ x has le. alike_among x second (λ told. absurd (omega (arith, highest.first x has told))),
        λ n less. (highest.one_of.0, highest.one_of.1, omega (arith, highest.one_of.3), differs_among highest.one_of.0 second highest.one_of.2),
      )

  -- the lowest number from there on that both added
  module _ (from : ℕ) (equal : EqualFrom first second from) where
    added : (n : ℕ) → from ≤ n → (both : Common first second n) → (leb from both.0.number && is_among second both.0.number) ≡ true
    added n le both =
        and_from _ _ (le-leb _ _ (omega (arith, both.4)))
        (ap (is_among second) (both.4 ∙ sym both.5) ∙ is_among_has second both.1 both.3)

    pub agreed_least : (r : Option ℕ) → r ≡ reduce min (map (λ x. x.number) (filter (λ x. leb from x.number && is_among second x.number) first)) → Agreed first second r
    agreed_least r is = by r (subst (λ (o : Option ℕ). MatchOption o NoneAdded LowestIs) (sym is) (least_of (λ x. x.number) (λ x. leb from x.number && is_among second x.number) first))
      where
        NoneAdded : Type 0
        NoneAdded = (x : Added) → Contains first x → (leb from x.number && is_among second x.number) ≡ true → ⊥

        LowestIs : ℕ → Type 0
        LowestIs m = BestOf ◌≤◌ (λ x. x.number) (λ x. leb from x.number && is_among second x.number) first m

        by : (o : Option ℕ) → MatchOption o NoneAdded LowestIs → Agreed first second o
        by None none = λ n both. ⊎_elim (equal.1 n) (λ le. absurd (none both.0 both.2 (added n le both))) (cases_lt n from)
        by (Some f) lowest =
            let x = lowest.one_of.0 in
            let parts = and_parts (leb from x.number) (is_among second x.number) lowest.one_of.2 in
            let y = among_has second x.number parts.1 in (
              (x, y.0, lowest.one_of.1, y.1, lowest.one_of.3, y.2 ∙ lowest.one_of.3),
              λ z has le. equal.0 z has (omega (arith, leb-true _ _ parts.0, lowest.one_of.3)),
              λ n less both. ⊎_elim (equal.1 n) (λ le. absurd (omega (arith, lowest.first both.0 both.2 (added n le both), both.4))) (cases_lt n from),
            )
