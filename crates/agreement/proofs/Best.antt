-- The best of some numbers, as `min` and `max` pick one of two. Assumes nothing.
use Rattle.std.proofs.Common.{◌≡◌, ℕ, zero, suc, ◌≤◌, ◌⊎◌, max, min, Bool, true, false, cond, ◌&&◌, ltb, List, [], ◌∷◌, get_or, map, Some, None, Option, ap, refl, sym, ◌∙◌, subst, inl, inr, ⊎_elim, arith}
use Rattle.std.specs.List.{fold, reduce, filter, Contains, All}
use Rattle.std.specs.Option.{MatchOption}
use Rattle.std.proofs.lemmas.Bool.{cond_both, cond-true, cond-false, cases_lt, both_ways, ltb-true, ltb-false}
use Rattle.std.proofs.lemmas.List.Elements.{All-nil, All-cons, All-head, All-tail, All-map, All-contains, All-contains_itself, All-filter, filter_passes}
use Rattle.agreement.specs.Agreement.{lower}

-- m is one of the numbers, and in a relation to each of them
record Best (R : ℕ → ℕ → Type 0) (ns : List ℕ) (m : ℕ) : Type 0 where
  pub one_of : Contains ns m
  pub first : All (R m) ns

here : (n : ℕ) (ns : List ℕ) (m : ℕ) → m ≡ n → Contains (n ∷ ns) m
here n ns m is = (0, omega arith, sym is)

there : (n : ℕ) (ns : List ℕ) (m : ℕ) → Contains ns m → Contains (n ∷ ns) m
there n ns m at = (suc at.0, omega (arith, at.1), at.2)

apart : (n : ℕ) (ns : List ℕ) (m : ℕ) → Contains (n ∷ ns) m → (m ≡ n) ⊎ Contains ns m
apart n ns m (zero, within, is) = inl (sym is)
apart n ns m (suc k, within, is) = inr (k, omega arith, is)

-- which elements pass, and what is known of each that does
all_from_map : {X : Type 0} (P : ℕ → Type 0) (key : X → ℕ) (xs : List X) → All P (map key xs) → All (λ x. P (key x)) xs
all_from_map P key [] all = All-nil (λ x. P (key x))
all_from_map P key (x ∷ xs) all = All-cons (λ x. P (key x)) x xs (All-head P (key x) (map key xs) all) (all_from_map P key xs (All-tail P (key x) (map key xs) all))

all_from_filter : {X : Type 0} (P : X → Type 0) (p : X → Bool) (xs : List X) → All P (filter p xs) → All (λ x. p x ≡ true → P x) xs
all_from_filter P p [] all = All-nil (λ x. p x ≡ true → P x)
all_from_filter P p (x ∷ xs) all =
    cond_both (p x) (x ∷ filter p xs) (filter p xs) (λ ys. All P ys → All (λ x. p x ≡ true → P x) (x ∷ xs))
    (λ passes all. All-cons (λ x. p x ≡ true → P x) x xs (λ told. All-head P x (filter p xs) all) (all_from_filter P p xs (All-tail P x (filter p xs) all)))
    (λ fails all. All-cons (λ x. p x ≡ true → P x) x xs (λ told. absurd (both_ways (p x) fails told)) (all_from_filter P p xs all))
    all

-- what is known of the best of the numbers of those elements that pass a test
pub record BestOf {X : Type 0} (R : ℕ → ℕ → Type 0) (key : X → ℕ) (p : X → Bool) (xs : List X) (m : ℕ) : Type 0 where
  pub one_of : (x : X) × Contains xs x × (p x ≡ true) × (key x ≡ m)
  pub first : (x : X) → Contains xs x → p x ≡ true → R m (key x)

module _ (pick : ℕ → ℕ → ℕ) (R : ℕ → ℕ → Type 0) (same : (a : ℕ) → R a a) (chain : (a b c : ℕ) → R a b → R b c → R a c)
    (left : (a b : ℕ) → R (pick a b) a) (right : (a b : ℕ) → R (pick a b) b) (one : (a b : ℕ) → (pick a b ≡ a) ⊎ (pick a b ≡ b)) where
  best : (a : ℕ) (ns : List ℕ) → Best R (a ∷ ns) (fold pick a ns)
  best a [] = record { one_of = here a [] a refl; first = All-cons (R a) a [] (same a) (All-nil (R a)) }
  best a (n ∷ ns) = from (fold pick (pick a n) ns) (best (pick a n) ns)
    where
      from : (m : ℕ) → Best R (pick a n ∷ ns) m → Best R (a ∷ n ∷ ns) m
      from m b =
          let front = All-head (R m) (pick a n) ns b.first in
          record {
            one_of =
                ⊎_elim
                (λ picked. ⊎_elim (λ l. here a (n ∷ ns) m (picked ∙ l)) (λ r. there a (n ∷ ns) m (here n ns m (picked ∙ r))) (one a n))
                (λ later. there a (n ∷ ns) m (there n ns m later))
                (apart (pick a n) ns m b.one_of);
            first =
                All-cons (R m) a (n ∷ ns) (chain m (pick a n) a front (left a n))
                (All-cons (R m) n ns (chain m (pick a n) n front (right a n)) (All-tail (R m) (pick a n) ns b.first));
          }

  pub best_of : {X : Type 0} (key : X → ℕ) (p : X → Bool) (xs : List X)
      → MatchOption (reduce pick (map key (filter p xs))) ((x : X) → Contains xs x → p x ≡ true → ⊥) (BestOf R key p xs)
  best_of {X} key p xs = by (map key (filter p xs)) refl
    where
      Passes : X → Type 0
      Passes x = Contains xs x × (p x ≡ true)

      passing : All (λ n. (x : X) × Contains xs x × (p x ≡ true) × (key x ≡ n)) (map key (filter p xs))
      passing =
          All-map (λ n. (x : X) × Contains xs x × (p x ≡ true) × (key x ≡ n)) key (filter p xs)
          (λ k d within. (get_or (filter p xs) k d, All-filter p (Contains xs) xs (All-contains_itself xs) k d within, filter_passes p xs k d within, refl))

      each : (P : ℕ → Type 0) → All P (map key (filter p xs)) → (x : X) → Contains xs x → p x ≡ true → P (key x)
      each P all x at = All-contains (λ x. p x ≡ true → P (key x)) xs x (all_from_filter (λ x. P (key x)) p xs (all_from_map P key (filter p xs) all)) at

      by : (ns : List ℕ) → map key (filter p xs) ≡ ns → MatchOption (reduce pick ns) ((x : X) → Contains xs x → p x ≡ true → ⊥) (BestOf R key p xs)
      by [] is = each (λ _. ⊥) (subst (All (λ _. ⊥)) (sym is) (All-nil (λ _. ⊥)))
      by (n ∷ ns) is =
          let m = fold pick n ns in
          let b = best n ns in
          record {
            one_of = All-contains (λ n. (x : X) × Contains xs x × (p x ≡ true) × (key x ≡ n)) (map key (filter p xs)) m passing (subst (λ l. Contains l m) (sym is) b.one_of);
            first = each (R m) (subst (All (R m)) (sym is) b.first);
          }

pub least_of : {X : Type 0} (key : X → ℕ) (p : X → Bool) (xs : List X)
    → MatchOption (reduce min (map key (filter p xs))) ((x : X) → Contains xs x → p x ≡ true → ⊥) (BestOf ◌≤◌ key p xs)
least_of =
    best_of min ◌≤◌ (λ a. omega arith) (λ a b c l r. omega arith) (λ a b. omega arith) (λ a b. omega arith)
    (λ a b. ⊎_elim (λ less. inl (omega arith)) (λ more. inr (omega arith)) (cases_lt a b))

pub greatest_of : {X : Type 0} (key : X → ℕ) (p : X → Bool) (xs : List X)
    → MatchOption (reduce max (map key (filter p xs))) ((x : X) → Contains xs x → p x ≡ true → ⊥) (BestOf (λ m n. n ≤ m) key p xs)
greatest_of =
    best_of max (λ m n. n ≤ m) (λ a. omega arith) (λ a b c l r. omega arith) (λ a b. omega arith) (λ a b. omega arith)
    (λ a b. ⊎_elim (λ less. inr (omega arith)) (λ more. inl (omega arith)) (cases_lt a b))

-- A walk that takes each number that is lower than the lowest so far and passes two tests, one before and one after, ends at the least that passes both.
module _ {X : Type 0} (key : X → ℕ) (p q : X → Bool) where
  abbrev pub next : Option ℕ → X → Option ℕ
  next lowest x = cond (p x && lower (key x) lowest && q x) (Some (key x)) lowest

  abbrev with : Option ℕ → ℕ → Option ℕ
  with None n = Some n
  with (Some m) n = Some (min m n)

  abbrev after : Option ℕ → List ℕ → Option ℕ
  after None ns = reduce min ns
  after (Some m) ns = Some (fold min m ns)

  one_more : (lowest : Option ℕ) (n : ℕ) (ns : List ℕ) → after (with lowest n) ns ≡ after lowest (n ∷ ns)
  one_more None n ns = refl
  one_more (Some m) n ns = refl

  parted : {A : Type 0} (a b c : Bool) (x y : A) → cond (a && b && c) x y ≡ cond (a && c) (cond b x y) y
  parted true true c x y = refl
  parted true false true x y = refl
  parted true false false x y = refl
  parted false b c x y = refl

  lowered : (lowest : Option ℕ) (n : ℕ) → cond (lower n lowest) (Some n) lowest ≡ with lowest n
  lowered None n = refl
  lowered (Some m) n =
      cond_both (ltb n m) (Some n) (Some m) (λ o. o ≡ Some (min m n))
      (λ less. ap Some (let l = ltb-true n m less in omega arith))
      (λ more. ap Some (let l = ltb-false n m more in omega arith))

  step : (lowest : Option ℕ) (x : X) → next lowest x ≡ cond (p x && q x) (with lowest (key x)) lowest
  step lowest x = parted (p x) (lower (key x) lowest) (q x) (Some (key x)) lowest ∙ ap (λ o. cond (p x && q x) o lowest) (lowered lowest (key x))

  walk : (lowest : Option ℕ) (xs : List X) → fold next lowest xs ≡ after lowest (map key (filter (λ x. p x && q x) xs))
  walk None [] = refl
  walk (Some m) [] = refl
  walk lowest (x ∷ xs) =
      cond_both (p x && q x) (x ∷ filter (λ x. p x && q x) xs) (filter (λ x. p x && q x) xs) (λ ys. fold next (next lowest x) xs ≡ after lowest (map key ys))
      (λ yes.
      ap (λ o. fold next o xs) (step lowest x ∙ cond-true (p x && q x) (with lowest (key x)) lowest yes)
      ∙ walk (with lowest (key x)) xs
      ∙ one_more lowest (key x) (map key (filter (λ x. p x && q x) xs)))
      (λ no. ap (λ o. fold next o xs) (step lowest x ∙ cond-false (p x && q x) (with lowest (key x)) lowest no) ∙ walk lowest xs)

  pub least_by_walk : (xs : List X) → fold next None xs ≡ reduce min (map key (filter (λ x. p x && q x) xs))
  least_by_walk = walk None
