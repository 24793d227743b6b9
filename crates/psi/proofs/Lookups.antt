-- A search through the map rows from the top.
use Rattle.std.proofs.Common.{◌≡◌, ℕ, zero, suc, ◌+◌, ◌<◌, ◌≤◌, Bool, true, false, cond, List, [], ◌∷◌, length, get_or, Some, None, Option, sym, refl, ap, ◌∙◌, subst, inl, ⊎_elim, le_of_suc-le-suc, not-suc-le-zero, add-zero, zero-add, arith}
use Rattle.std.specs.Option.{option_map}
use Rattle.std.specs.List.{HoldsAt, position, position_from}
use Rattle.std.proofs.lemmas.Iterator.Adapters.{position_from-zero}
use Rattle.std.proofs.lemmas.List.{get_or_default}
use Rattle.std.proofs.lemmas.Bool.{and_parts, eqb-true, cond-true, cond-false, cases_Bool, cases_lt, both_ways}
use Rattle.config.specs.Rows.{NoneShares, Before}
use Rattle.config.specs.declared.row.Row.{Row}
use Rattle.psi.specs.Lookup.{fits, further, find_row, row_of, Alone}

-- so many rows further down the table
abbrev pub down : ℕ → Option (ℕ × Row) → Option (ℕ × Row)
down n found = option_map (λ (f : ℕ × Row). (n + f.0, f.1)) found

pub down_further : (n : ℕ) (found : Option (ℕ × Row)) → down n (option_map further found) ≡ down (n + 1) found
down_further n None = refl
down_further n (Some f) = let e : n + suc f.0 ≡ n + 1 + f.0 = omega arith in ap (λ m. Some (m, f.1)) e

pub down_none : (found : Option (ℕ × Row)) → down 0 found ≡ found
down_none None = refl
down_none (Some f) = ap (λ m. Some (m, f.1)) (zero-add f.0)

-- the place at which the search passes is the number of the row
placed_from : (rows : List Row) (parent pid i : ℕ) → position_from (fits parent pid) i rows ≡ option_map (λ (f : ℕ × Row). f.0) (down i (find_row rows parent pid))
placed_from [] parent pid i = refl
placed_from (r ∷ rs) parent pid i = by_test (placed_from rs parent pid (i + 1)) (fits parent pid r)
  where
    by_test : position_from (fits parent pid) (i + 1) rs ≡ option_map (λ (f : ℕ × Row). f.0) (down (i + 1) (find_row rs parent pid)) → (b : Bool) → cond b (Some i) (position_from (fits parent pid) (i + 1) rs) ≡ option_map (λ (f : ℕ × Row). f.0) (down i (cond b (Some (0, r)) (option_map further (find_row rs parent pid))))
    by_test rest true = ap Some (sym (add-zero i))
    by_test rest false = rest ∙ ap (option_map (λ (f : ℕ × Row). f.0)) (sym (down_further i (find_row rs parent pid)))

pub placed : (rows : List Row) (parent pid : ℕ) → position (fits parent pid) rows ≡ row_of rows parent pid
unfolding row_of
placed rows parent pid =
    position_from-zero (fits parent pid) rows
    ∙ placed_from rows parent pid 0
    ∙ ap (option_map (λ (f : ℕ × Row). f.0)) (down_none (find_row rows parent pid))

-- no row, or the one at that place
pub unplaced : (rows : List Row) (parent pid : ℕ) → position (fits parent pid) rows ≡ None → find_row rows parent pid ≡ None
unfolding row_of
unplaced rows parent pid e = nothing (find_row rows parent pid) (sym (placed rows parent pid) ∙ e)
  where
    nothing : (o : Option (ℕ × Row)) → option_map (λ (f : ℕ × Row). f.0) o ≡ None → o ≡ None
    nothing None h = refl
    nothing (Some f) h = let z : ◌≡◌ {A = ℕ} 0 1 = cc in absurd (omega arith)

-- the first row that fits stands at or before any that does
pub record First (rows : List Row) (parent pid k : ℕ) : Type 0 where
  pub number : ℕ
  pub is : row_of rows parent pid ≡ Some number
  pub before : number ≤ k
  pub there : HoldsAt (λ row. fits parent pid row ≡ true) rows number

mapped_further : (found : Option (ℕ × Row)) → option_map (λ (f : ℕ × Row). f.0) (option_map further found) ≡ option_map suc (option_map (λ (f : ℕ × Row). f.0) found)
mapped_further None = refl
mapped_further (Some f) = refl

-- it is the first row of all, or the first of those below
first_of : (r : Row) (rs : List Row) (parent pid k : ℕ) → ((j : ℕ) → j < length rs → HoldsAt (λ row. fits parent pid row ≡ true) rs j → First rs parent pid j) → k < length (r ∷ rs) → HoldsAt (λ row. fits parent pid row ≡ true) (r ∷ rs) k → First (r ∷ rs) parent pid k
unfolding row_of
first_of r rs parent pid k below h at = ⊎_elim here (there k h at) (cases_Bool (fits parent pid r))
  where
    here : fits parent pid r ≡ true → First (r ∷ rs) parent pid k
    here e = record { number = 0; is = ap (option_map (λ (f : ℕ × Row). f.0)) (cond-true _ _ _ e); before = omega arith; there = λ d. e }

    there : (k : ℕ) → k < length (r ∷ rs) → HoldsAt (λ row. fits parent pid row ≡ true) (r ∷ rs) k → fits parent pid r ≡ false → First (r ∷ rs) parent pid k
    there zero h at e = absurd (both_ways _ e (at r))
    there (suc k) h at e =
        let rest = below k (le_of_suc-le-suc h) at in
        record {
          number = suc rest.number;
          is = ap (option_map (λ (f : ℕ × Row). f.0)) (cond-false _ _ _ e) ∙ mapped_further (find_row rs parent pid) ∙ ap (option_map suc) rest.is;
          before = omega (arith, rest.before);
          there = rest.there;
        }

pub first : (rows : List Row) (parent pid k : ℕ) → k < length rows → HoldsAt (λ row. fits parent pid row ≡ true) rows k → First rows parent pid k
first [] parent pid k h at = absurd (not-suc-le-zero h)
first (r ∷ rs) parent pid k h at = first_of r rs parent pid k (first rs parent pid) h at

-- rows that share no pair of parent and PID: one that fits is the one that is found
pub alone : (rows : List Row) (parent pid : ℕ) → NoneShares rows → Alone rows parent pid (row_of rows parent pid)
alone [] parent pid apart k h at = absurd (not-suc-le-zero h)
alone (r ∷ rs) parent pid apart k h at =
    let f = first (r ∷ rs) parent pid k h at in
    ⊎_elim (λ l. absurd (apart _ _ (before f l) (inl (shared f)))) (λ l. f.is ∙ ap Some (omega (arith, f.before))) (cases_lt f.number k)
  where
    before : (f : First (r ∷ rs) parent pid k) → f.number < k → Before (r ∷ rs) (get_or (r ∷ rs) f.number r) (get_or (r ∷ rs) k r)
    before f l =
        record {
          first = f.number;
          second = k;
          order = l;
          within = h;
          at_first = λ d. get_or_default (r ∷ rs) f.number d r (omega arith);
          at_second = λ d. get_or_default (r ∷ rs) k d r h;
        }

    shared : (f : First (r ∷ rs) parent pid k) → ((get_or (r ∷ rs) f.number r).parent ≡ (get_or (r ∷ rs) k r).parent) × ((get_or (r ∷ rs) f.number r).pid ≡ (get_or (r ∷ rs) k r).pid)
    shared f =
        let p = and_parts _ _ (f.there r) in
        let q = and_parts _ _ (at r) in
        (eqb-true _ _ p.0 ∙ sym (eqb-true _ _ q.0), eqb-true _ _ p.1 ∙ sym (eqb-true _ _ q.1))

-- a row that is found is a row of the table, at its number
pub record Found (rows : List Row) (f : ℕ × Row) : Type 0 where
  pub within : f.0 < length rows
  pub there : HoldsAt (λ row. row ≡ f.1) rows f.0

pub found : (rows : List Row) (parent pid : ℕ) (f : ℕ × Row) → find_row rows parent pid ≡ Some f → Found rows f
found [] parent pid f e = let z : ◌≡◌ {A = ℕ} 0 1 = cc in absurd (omega arith)
found (r ∷ rs) parent pid f e = found_by (fits parent pid r) (find_row rs parent pid) e (found rs parent pid)
  where
    found_by : (b : Bool) (o : Option (ℕ × Row)) → cond b (Some (0, r)) (option_map further o) ≡ Some f → ((g : ℕ × Row) → o ≡ Some g → Found rs g) → Found (r ∷ rs) f
    found_by true o e below =
        let is : (0, r) ≡ f = cc in
        subst (Found (r ∷ rs)) is (record { within = omega arith; there = λ d. refl })
    found_by false None e below = let z : ◌≡◌ {A = ℕ} 0 1 = cc in absurd (omega arith)
    found_by false (Some g) e below =
        let is : further g ≡ f = cc in
        let rest = below g refl in
        subst (Found (r ∷ rs)) is (record { within = omega (arith, rest.within); there = rest.there })

pub placed_at : (rows : List Row) (parent pid k : ℕ) → position (fits parent pid) rows ≡ Some k → (k < length rows) × ((d : Row) → find_row rows parent pid ≡ Some (k, get_or rows k d))
unfolding row_of
placed_at rows parent pid k e = at (find_row rows parent pid) refl (sym (placed rows parent pid) ∙ e)
  where
    at : (o : Option (ℕ × Row)) → find_row rows parent pid ≡ o → option_map (λ (f : ℕ × Row). f.0) o ≡ Some k → (k < length rows) × ((d : Row) → find_row rows parent pid ≡ Some (k, get_or rows k d))
    at None is h = let z : ◌≡◌ {A = ℕ} 0 1 = cc in absurd (omega arith)
    at (Some f) is h =
        let there = found rows parent pid f is in
        let same : f.0 ≡ k = cc h in
        (omega (arith, there.within, same), λ d. is ∙ (λ i. Some (same i, (sym (there.there d) ∙ ap (λ n. get_or rows n d) same) i)))
