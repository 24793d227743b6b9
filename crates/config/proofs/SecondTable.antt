-- The second table: where it ends, and what its lines say.
use Rattle.std.proofs.Common.{◌≡◌, ℕ, zero, suc, ◌+◌, ◌-◌, ◌<◌, ◌≤◌, max, true, false, cond, ◌&&◌, eqb, ltb, ◌⊎◌, List, [], ◌∷◌, ◌++◌, map, length, get_or, take, drop, Some, None, Ok, Err, Option, Result, sym, refl, ap, ◌∙◌, subst, inl, inr, ⊎_elim, add-one, arith}
use Rattle.std.specs.List.{slice_get}
use Rattle.std.proofs.lemmas.List.{length_push, map_push, get_or_push, get_or_append_left}
use Rattle.std.proofs.lemmas.Bool.{eq-eqb, ne_eqb, lt-ltb, le-ltb, ltb-true, ltb-false, eqb-true, eqb-false, and_parts, and_cases, cases_Bool, cases_eq, cases_lt, cond-true, cond-false}
use Rattle.config.specs.declared.fault.TextFault.{TextFault}
use Rattle.config.specs.Layout.{gap, parent, place, parents, filled, wrong_at, values_wrong, parent_rules, rate_of, field_at, line_wrong, end_wrong}
use Rattle.config.specs.declared.line.Line.{Line}
use Rattle.config.specs.declared.reader.Reader.{Reader}
use Rattle.config.specs.Reading.{unless, Next, bytes_of, wrong, parents_end, parent_or_gap, rate_or_none}
use Rattle.config.specs.Rows.{Between}
use Rattle.config.specs.Text.{Bytes}
use Rattle.config.specs.Walk.{At, First, ParentsRead}
use Rattle.config.proofs.Lines.{values_kept, unless_ok, table_right}
use Rattle.config.proofs.Numbers.{range_known}
use Rattle.config.proofs.Walks.{here_is, goes_on, bad}

pub nth_drop : {X : Type 0} (n : ℕ) (xs : List X) (i : ℕ) → slice_get (drop n xs) i ≡ slice_get xs (n + i)
nth_drop zero xs i = ap (slice_get xs) (omega arith)
nth_drop (suc n) [] i = refl
nth_drop (suc n) (x ∷ xs) i = nth_drop n xs i ∙ ap (slice_get (x ∷ xs)) one
  where
    one : suc (n + i) ≡ suc n + i
    one = omega arith

pub take_nth : {X : Type 0} (xs : List X) (i : ℕ) (x : X) → slice_get xs i ≡ Some x → take (i + 1) xs ≡ take i xs ++ x ∷ []
take_nth [] i x is = let z : ◌≡◌ {A = ℕ} 0 1 = cc in absurd (omega arith)
take_nth (y ∷ xs) zero x is = cc
take_nth (y ∷ xs) (suc i) x is = rw add-one (ap (λ l. y ∷ l) (ap (λ n. take n xs) (sym (add-one i)) ∙ take_nth xs i x is))

-- the lines before the first empty one
filled_goes : (xs : List Bytes) (i : ℕ) (l : Bytes) → i ≤ filled xs → slice_get xs i ≡ Some l → 0 < length l → i < filled xs
filled_goes [] i l upto is some = let z : ◌≡◌ {A = ℕ} 0 1 = cc in absurd (omega arith)
filled_goes ([] ∷ xs) zero l upto is some =
    let same : l ≡ [] = cc in
    absurd (let none : length l ≡ 0 = ap length same in omega arith)
filled_goes ([] ∷ xs) (suc i) l upto is some = absurd (omega arith)
filled_goes ((b ∷ bs) ∷ xs) zero l upto is some = omega arith
filled_goes ((b ∷ bs) ∷ xs) (suc i) l upto is some =
    let below : i ≤ filled xs = omega arith in
    let h = filled_goes xs i l below is some in
    omega arith

filled_ends : (xs : List Bytes) (i : ℕ) → i ≤ filled xs → (slice_get xs i ≡ None) ⊎ (slice_get xs i ≡ Some []) → filled xs ≡ i
filled_ends [] i upto ended = omega arith
filled_ends ([] ∷ xs) i upto ended = omega arith
filled_ends ((b ∷ bs) ∷ xs) zero upto (inl none) = let z : ◌≡◌ {A = ℕ} 0 1 = cc in absurd (omega arith)
filled_ends ((b ∷ bs) ∷ xs) zero upto (inr empty) = let z : ◌≡◌ {A = ℕ} 0 1 = cc in absurd (omega arith)
filled_ends ((b ∷ bs) ∷ xs) (suc i) upto ended =
    let below : i ≤ filled xs = omega arith in
    ap suc (filled_ends xs i below ended)

pub place_parent : (ls : List Bytes) (i : ℕ) → i < parents ls → place ls (4 + i) ≡ parent i
unfolding place
place_parent ls i lt =
    let n0 : 4 + i ≡ 0 → ⊥ = omega arith in
    let n1 : 4 + i ≡ 1 → ⊥ = omega arith in
    let n2 : 4 + i ≡ 2 → ⊥ = omega arith in
    let n3 : 4 + i ≡ 3 → ⊥ = omega arith in
    let n4 : 4 + i < 4 + parents ls = omega arith in
    let back : 4 + i - 4 ≡ i = omega arith in
    rw (ne_eqb (4 + i) 0 n0, ne_eqb (4 + i) 1 n1, ne_eqb (4 + i) 2 n2, ne_eqb (4 + i) 3 n3, lt-ltb (4 + i) (4 + parents ls) n4) (ap parent back)

pub place_gap : (ls : List Bytes) → place ls (4 + parents ls) ≡ gap
unfolding place
place_gap ls =
    let n0 : 4 + parents ls ≡ 0 → ⊥ = omega arith in
    let n1 : 4 + parents ls ≡ 1 → ⊥ = omega arith in
    let n2 : 4 + parents ls ≡ 2 → ⊥ = omega arith in
    let n3 : 4 + parents ls ≡ 3 → ⊥ = omega arith in
    let n4 : 4 + parents ls ≤ 4 + parents ls = omega arith in
    rw (ne_eqb (4 + parents ls) 0 n0, ne_eqb (4 + parents ls) 1 n1, ne_eqb (4 + parents ls) 2 n2, ne_eqb (4 + parents ls) 3 n3, le-ltb (4 + parents ls) (4 + parents ls) n4, eq-eqb (4 + parents ls) (4 + parents ls) refl) refl

empty_is : (l : Bytes) → length l ≡ 0 → l ≡ []
empty_is [] e = refl
empty_is (b ∷ bs) e = absurd (omega arith)

-- where the table has ended
pub ended : (i : ℕ) (o : Option Bytes) → parents_end i o ≡ true → (0 < i) × ((o ≡ None) ⊎ (o ≡ Some []))
ended i None e = (ltb-true 0 i e, inl refl)
ended i (Some l) e =
    let parts = and_parts (ltb 0 i) (eqb (length l) 0) e in
    (ltb-true 0 i parts.0, inr (ap Some (empty_is l (eqb-true (length l) 0 parts.1))))

module _ (ls : List Bytes) (i : ℕ) (upto : i ≤ filled (drop 4 ls)) where
  here : slice_get (drop 4 ls) i ≡ slice_get ls (4 + i)
  here = nth_drop 4 ls i

  pub ended_there : parents_end i (slice_get ls (4 + i)) ≡ true → parents ls ≡ i
  unfolding parents
  ended_there e =
      let at = ended i (slice_get ls (4 + i)) e in
      let all : filled (drop 4 ls) ≡ i = filled_ends (drop 4 ls) i upto (⊎_elim (λ none. inl (here ∙ none)) (λ empty. inr (here ∙ empty)) at.1) in
      omega (arith, at.0)

  pub on_there : (l : Bytes) → slice_get ls (4 + i) ≡ Some l → 0 < length l → i < filled (drop 4 ls)
  on_there l is some = filled_goes (drop 4 ls) i l upto (here ∙ is) some

  on_or_first : parents_end i (slice_get ls (4 + i)) ≡ false → i < parents ls
  unfolding parents
  on_or_first e = by (slice_get ls (4 + i)) refl e
    where
      by : (o : Option Bytes) → slice_get ls (4 + i) ≡ o → parents_end i o ≡ false → i < max 1 (filled (drop 4 ls))
      by None is f = omega (arith, ltb-false 0 i f)
      by (Some l) is f =
          ⊎_elim
          (λ first. omega (arith, ltb-false 0 i first))
          (λ some. let more : 0 < length l = omega (arith, eqb-false (length l) 0 some) in omega (arith, on_there l is more))
          (and_cases (ltb 0 i) (eqb (length l) 0) f)

  -- the place of line i of the table is told by that line alone
  pub place_second : place ls (4 + i) ≡ parent_or_gap i (slice_get ls (4 + i))
  place_second =
      ⊎_elim
      (λ end. let p = ended_there end in ap (λ k. place ls (4 + k)) (sym p) ∙ place_gap ls ∙ sym (cond-true _ _ _ end))
      (λ on. place_parent ls i (on_or_first on) ∙ sym (cond-false _ _ _ on))
      (cases_Bool (parents_end i (slice_get ls (4 + i))))

-- what a line of the table answered
pub record RateRead (i x : ℕ) (o : Option Bytes) : Type 0 where
  pub line : Bytes
  pub is : o ≡ Some line
  pub some : 0 < length line
  pub few : i < 4
  pub rate : x ≡ rate_of line
  pub range : Between 100_000 100_000_000 x

rate_range : (n i : ℕ) (line : Bytes) → values_wrong n (parent_rules i) line ≡ None → Between 100_000 100_000_000 (rate_of line)
unfolding rate_of
rate_range n i line right = range_known _ _ (field_at line 1) (values_kept n (parent_rules i) line right 1 _ refl)

parent_line : (n i x : ℕ) (line : Bytes) → (ltb 0 i && eqb (length line) 0) ≡ false → line_wrong n (parent i) line ≡ None → x ≡ rate_of line → RateRead i x (Some line)
unfolding line_wrong
parent_line n i x line on right rate =
    let table = table_right n 4 i line _ right in
    let range = rate_range n i line table.2 in
    record {
      line = line;
      is = refl;
      some =
          ⊎_elim
          (λ (none : length line ≡ 0).
          ⊎_elim
          (λ first. ⊎_elim (λ other. absurd (eqb-false i 0 other (omega (arith, ltb-false 0 i first)))) (λ other. absurd (eqb-false (length line) 0 other none)) (and_cases (eqb i 0) (eqb (length line) 0) table.1))
          (λ some. absurd (eqb-false (length line) 0 some none))
          (and_cases (ltb 0 i) (eqb (length line) 0) on))
          (λ some. omega arith)
          (cases_eq (length line) 0);
      few = table.0;
      rate = rate;
      range = subst (Between 100_000 100_000_000) (sym rate) range;
    }

pub parent_read : (n i x : ℕ) (o : Option Bytes) → Ok (Some x) ≡ unless (wrong_at n (parent_or_gap i o) o) (rate_or_none i o) → RateRead i x o
unfolding end_wrong
parent_read n i x None answer = ⊎_elim at_end at_first (cases_Bool (ltb 0 i))
  where
    told : (wrong_at n (parent_or_gap i None) None ≡ None) × (Some x ≡ rate_or_none i None)
    told = unless_ok _ _ _ answer

    at_end : ltb 0 i ≡ true → RateRead i x None
    at_end end =
        let none : Some x ≡ None = told.1 ∙ cond-true _ _ _ end in
        let z : ◌≡◌ {A = ℕ} 0 1 = cc in
        absurd (omega arith)

    at_first : ltb 0 i ≡ false → RateRead i x None
    at_first first =
        let right : end_wrong n (parent i) ≡ None = ap (end_wrong n) (sym (cond-false (ltb 0 i) gap (parent i) first)) ∙ told.0 in
        let z : ◌≡◌ {A = ℕ} 0 1 = cc in
        absurd (omega arith)
parent_read n i x (Some line) answer = ⊎_elim at_end on (cases_Bool (ltb 0 i && eqb (length line) 0))
  where
    told : (wrong_at n (parent_or_gap i (Some line)) (Some line) ≡ None) × (Some x ≡ rate_or_none i (Some line))
    told = unless_ok _ _ _ answer

    at_end : (ltb 0 i && eqb (length line) 0) ≡ true → RateRead i x (Some line)
    at_end end =
        let none : Some x ≡ None = told.1 ∙ cond-true _ _ _ end in
        let z : ◌≡◌ {A = ℕ} 0 1 = cc in
        absurd (omega arith)

    on : (ltb 0 i && eqb (length line) 0) ≡ false → RateRead i x (Some line)
    on more =
        let rate : Some x ≡ Some (rate_of line) = told.1 ∙ cond-false _ _ _ more in
        parent_line n i x line more
        (ap (λ p. line_wrong n p line) (sym (cond-false (ltb 0 i && eqb (length line) 0) gap (parent i) more)) ∙ told.0)
        (cc)

-- what the line behind the table answered
pub gap_read : (n i : ℕ) (o : Option Bytes) → Ok None ≡ unless (wrong_at n (parent_or_gap i o) o) (rate_or_none i o) → (parents_end i o ≡ true) × ((b : Bytes) × (o ≡ Some b))
unfolding end_wrong
gap_read n i o answer = ⊎_elim (λ end. (end, there o refl end)) (λ on. absurd (never on)) (cases_Bool (parents_end i o))
  where
    told : (wrong_at n (parent_or_gap i o) o ≡ None) × (◌≡◌ {A = Option ℕ} None (rate_or_none i o))
    told = unless_ok _ _ _ answer

    never : parents_end i o ≡ false → ⊥
    never on =
        let some = told.1 ∙ cond-false (parents_end i o) _ _ on in
        let z : ◌≡◌ {A = ℕ} 0 1 = cc in
        omega arith

    there : (p : Option Bytes) → o ≡ p → parents_end i o ≡ true → (b : Bytes) × (o ≡ Some b)
    there None is end =
        let right : end_wrong n gap ≡ None = sym (λ k. wrong_at n (cond (end k) gap (parent i)) (is k)) ∙ told.0 in
        let z : ◌≡◌ {A = ℕ} 0 1 = cc in
        absurd (omega arith)
    there (Some b) is end = (b, is)

-- i lines of the table are read, and these are their rates
pub record ReadParents (ls : List Bytes) (r : Reader) (rates : List ℕ) : Type 0 where
  pub at : At ls r (4 + length rates)
  pub few : length rates ≤ 4
  pub upto : length rates ≤ filled (drop 4 ls)
  pub are : rates ≡ map rate_of (take (length rates) (drop 4 ls))
  pub range : (p : ℕ) → p < length rates → Between 100_000 100_000_000 (get_or rates p 0)

module _ (ls : List Bytes) (r s : Reader) (rates : List ℕ) (read : ReadParents ls r rates) (l : Line) (next : Next r l s) (i : ℕ) (count : i ≡ length rates) where
  -- the answer of the next line, as line i of the table
  abbrev answer : ℕ → Result (Option ℕ) TextFault
  answer k = unless (wrong l (parent_or_gap k (bytes_of l))) (rate_or_none k (bytes_of l))

  place_is : place ls (4 + length rates) ≡ parent_or_gap (length rates) (bytes_of l)
  place_is =
      place_second ls (length rates) read.upto
      ∙ ap (parent_or_gap (length rates)) (sym (next.bytes ∙ here_is ls r _ read.at l s next))

  pub parent_wrong : (e : TextFault) → Err e ≡ answer i → First ls e
  parent_wrong e err = bad read.at next _ place_is _ e (err ∙ ap answer count)

  pub parent_more : (x : ℕ) → Ok (Some x) ≡ answer i → ReadParents ls s (rates ++ x ∷ [])
  parent_more x told =
      let ok : Ok (Some x) ≡ answer (length rates) = told ∙ ap answer count in
      let got = parent_read _ (length rates) x (bytes_of l) ok in
      let on = goes_on ls r _ read.at l s next _ place_is (unless_ok _ _ _ ok).0 got.line got.is in
      let long : length (rates ++ x ∷ []) ≡ length rates + 1 = length_push rates x in
      let line : slice_get ls (4 + length rates) ≡ Some got.line = sym (next.bytes ∙ here_is ls r _ read.at l s next) ∙ got.is in
      let inside : length rates < filled (drop 4 ls) = on_there ls (length rates) read.upto got.line line got.some in
      record {
        at = subst (At ls s) (omega (arith, long)) on;
        few = omega (arith, long, got.few);
        upto = omega (arith, long, inside);
        are =
            (λ k. read.are k ++ got.rate k ∷ [])
            ∙ sym (map_push rate_of (take (length rates) (drop 4 ls)) got.line)
            ∙ ap (map rate_of) (sym (take_nth (drop 4 ls) (length rates) got.line (nth_drop 4 ls (length rates) ∙ line)))
            ∙ ap (λ n. map rate_of (take n (drop 4 ls))) (sym long);
        range = λ p lt.
            ⊎_elim
            (λ below. subst (Between 100_000 100_000_000) (sym (get_or_append_left rates (x ∷ []) 0 p below)) (read.range p below))
            (λ past. let last : length rates ≡ p = omega (arith, long) in subst (Between 100_000 100_000_000) (sym (get_or_push rates x 0 p last)) got.range)
            (cases_lt p (length rates));
      }

  pub parents_done : Ok None ≡ answer i → At ls s (5 + parents ls) × ParentsRead ls rates
  parents_done told =
      let ok : Ok None ≡ answer (length rates) = told ∙ ap answer count in
      let got = gap_read _ (length rates) (bytes_of l) ok in
      let there = got.1 in
      let on = goes_on ls r _ read.at l s next _ place_is (unless_ok _ _ _ ok).0 there.0 there.1 in
      let all : parents ls ≡ length rates = ended_there ls (length rates) read.upto (ap (parents_end (length rates)) (sym (next.bytes ∙ here_is ls r _ read.at l s next)) ∙ got.0) in
      let first = (ended (length rates) (bytes_of l) got.0).0 in (
        subst (At ls s) (omega arith) on,
        (read.are ∙ ap (λ n. map rate_of (take n (drop 4 ls))) (sym all), ((first, read.few), read.range)),
      )
