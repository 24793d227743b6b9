-- The third table: what its lines say, up to the end of the text.
use Rattle.std.proofs.Common.{◌≡◌, ℕ, zero, suc, ◌+◌, ◌-◌, ◌<◌, ◌≤◌, Bool, true, false, cond, ◌&&◌, leb, List, [], ◌∷◌, ◌++◌, map, length, take, drop, Some, None, Ok, Err, codes, Option, Result, sym, refl, ap, ◌∙◌, subst, subst₂, ⊎_elim, arith, length-drop}
use Rattle.std.specs.List.{slice_get}
use Rattle.std.specs.Option.{option_map}
use Rattle.std.proofs.ByRecursion.{has_push_cases}
use Rattle.std.proofs.lemmas.List.{length_push, length-map, take_all}
use Rattle.std.proofs.lemmas.Bool.{eq-eqb, ne_eqb, le-ltb, leb-false, cond-true, cases_eq}
use Rattle.config.specs.declared.fault.TextFault.{TextFault}
use Rattle.config.specs.declared.fault.TextRefusal.TheVariants.{Range}
use Rattle.config.specs.declared.line.Line.{Line}
use Rattle.config.specs.declared.reader.Reader.{Reader}
use Rattle.config.specs.declared.row.Row.{Row}
use Rattle.config.specs.declared.row.Kind.{Kind}
use Rattle.config.specs.declared.row.Kind.TheVariants.{Pass, Pmt}
use Rattle.config.specs.Layout.{names, map_row, place, parents, map_rows, fault, field_at, wrong_at, line_wrong, end_wrong, values_wrong, row_rules, row_of}
use Rattle.config.specs.Reading.{unless, Next, bytes_of, wrong}
use Rattle.config.specs.Rows.{RowInRange, RowsInRange, is_pmt, pmts}
use Rattle.config.specs.Text.{Bytes}
use Rattle.config.specs.Walk.{At, First, RowsRead}
use Rattle.config.proofs.Lines.{values_kept, unless_ok, table_right, or_other_none}
use Rattle.config.proofs.Numbers.{range_known}
use Rattle.config.proofs.SecondTable.{nth_drop, take_nth}
use Rattle.config.proofs.Walks.{here_is, goes_on, ends, bad}

pub place_names : (ls : List Bytes) → place ls (5 + parents ls) ≡ names (codes "parent pid out kind service")
unfolding place
place_names ls =
    let n0 : 5 + parents ls ≡ 0 → ⊥ = omega arith in
    let n1 : 5 + parents ls ≡ 1 → ⊥ = omega arith in
    let n2 : 5 + parents ls ≡ 2 → ⊥ = omega arith in
    let n3 : 5 + parents ls ≡ 3 → ⊥ = omega arith in
    let n4 : 4 + parents ls ≤ 5 + parents ls = omega arith in
    let n5 : 5 + parents ls ≡ 4 + parents ls → ⊥ = omega arith in
    rw (ne_eqb (5 + parents ls) 0 n0, ne_eqb (5 + parents ls) 1 n1, ne_eqb (5 + parents ls) 2 n2, ne_eqb (5 + parents ls) 3 n3, le-ltb (5 + parents ls) (4 + parents ls) n4, ne_eqb (5 + parents ls) (4 + parents ls) n5, eq-eqb (5 + parents ls) (5 + parents ls) refl) refl

place_row : (ls : List Bytes) (j : ℕ) → place ls (6 + parents ls + j) ≡ map_row j (pmts (take j (map_rows ls)))
unfolding place
place_row ls j =
    let n : ℕ = 6 + parents ls + j in
    let n0 : n ≡ 0 → ⊥ = omega arith in
    let n1 : n ≡ 1 → ⊥ = omega arith in
    let n2 : n ≡ 2 → ⊥ = omega arith in
    let n3 : n ≡ 3 → ⊥ = omega arith in
    let n4 : 4 + parents ls ≤ n = omega arith in
    let n5 : n ≡ 4 + parents ls → ⊥ = omega arith in
    let n6 : n ≡ 5 + parents ls → ⊥ = omega arith in
    let back : n - (6 + parents ls) ≡ j = omega arith in
    rw (ne_eqb n 0 n0, ne_eqb n 1 n1, ne_eqb n 2 n2, ne_eqb n 3 n3, le-ltb n (4 + parents ls) n4, ne_eqb n (4 + parents ls) n5, ne_eqb n (5 + parents ls) n6)
    (ap (λ k. map_row k (pmts (take k (map_rows ls)))) back)

pub pmts_push : (rows : List Row) (r : Row) → pmts (rows ++ r ∷ []) ≡ pmts rows + cond (is_pmt r.kind) 1 0
pmts_push [] r = omega arith
pmts_push (x ∷ rows) r = let h = pmts_push rows r in omega arith

nth_map : {X Y : Type 0} (f : X → Y) (xs : List X) (i : ℕ) → slice_get (map f xs) i ≡ option_map f (slice_get xs i)
nth_map f [] i = refl
nth_map f (x ∷ xs) zero = refl
nth_map f (x ∷ xs) (suc i) = nth_map f xs i

nth_rows : (ls : List Bytes) (j : ℕ) (l : Bytes) → slice_get ls (6 + parents ls + j) ≡ Some l → slice_get (map_rows ls) j ≡ Some (row_of l)
unfolding map_rows
nth_rows ls j l is = nth_map row_of (drop (6 + parents ls) ls) j ∙ ap (option_map row_of) (nth_drop (6 + parents ls) ls j ∙ is)

pub length_rows : (ls : List Bytes) → length (map_rows ls) ≡ length ls - (6 + parents ls)
unfolding map_rows
length_rows ls = length-map (drop (6 + parents ls) ls) row_of ∙ length-drop (6 + parents ls) ls

-- what a line of the map answered
pub record RowRead (i m : ℕ) (row : Row) (o : Option Bytes) : Type 0 where
  pub line : Bytes
  pub is : o ≡ Some line
  pub row_is : row ≡ row_of line
  pub few : i < 64
  pub range : RowInRange row
  pub pmt : m ≤ 42 → m + cond (is_pmt row.kind) 1 0 ≤ 42

row_range : (n : ℕ) (line : Bytes) → values_wrong n (row_rules (row_of line).kind) line ≡ None → RowInRange (row_of line)
unfolding row_of
row_range n line right =
    let kept = values_kept n (row_rules (row_of line).kind) line right in
    (range_known _ _ (field_at line 1) (kept 1 _ refl), range_known _ _ (field_at line 2) (kept 2 _ refl), range_known _ _ (field_at line 4) (kept 4 _ refl))

-- the 43rd `pmt` row was not met
few_pmts : (n m : ℕ) (b : Bool) → cond (b && leb 42 m) (Some (fault Range n 0)) None ≡ None → m ≤ 42 → m + cond b 1 0 ≤ 42
few_pmts n m false e small = omega arith
few_pmts n m true e small = by (leb 42 m) refl e
  where
    by : (t : Bool) → leb 42 m ≡ t → cond t (Some (fault Range n 0)) None ≡ None → m + 1 ≤ 42
    by true is f = let z : ◌≡◌ {A = ℕ} 0 1 = cc in absurd (omega arith)
    by false is f = omega (arith, leb-false 42 m is)

row_line : (n i m : ℕ) (row : Row) (line : Bytes) → line_wrong n (map_row i m) line ≡ None → row ≡ row_of line → RowRead i m row (Some line)
unfolding line_wrong
row_line n i m row line right row_is =
    let table = table_right n 64 i line _ right in
    let parts = or_other_none (values_wrong n (row_rules (row_of line).kind) line) _ table.2 in
    record {
      line = line;
      is = refl;
      row_is = row_is;
      few = table.0;
      range = subst RowInRange (sym row_is) (row_range n line parts.0);
      pmt = subst (λ (r : Row). m ≤ 42 → m + cond (is_pmt r.kind) 1 0 ≤ 42) (sym row_is) (few_pmts n m (is_pmt (row_of line).kind) parts.1);
    }

pub row_read : (n i m : ℕ) (row : Row) (o : Option Bytes) → Ok (Some row) ≡ unless (wrong_at n (map_row i m) o) (option_map row_of o) → RowRead i m row o
row_read n i m row None answer =
    let none : Some row ≡ None = (unless_ok _ _ _ answer).1 in
    let z : ◌≡◌ {A = ℕ} 0 1 = cc in
    absurd (omega arith)
row_read n i m row (Some line) answer =
    let told = unless_ok _ _ _ answer in
    row_line n i m row line told.0 (cc)

-- what the end of the text answered
pub end_read : (n i m : ℕ) (o : Option Bytes) → Ok None ≡ unless (wrong_at n (map_row i m) o) (option_map row_of o) → (o ≡ None) × (0 < i)
unfolding end_wrong
end_read n i m None answer = (
  refl,
  ⊎_elim
      (λ (first : i ≡ 0).
      let wrong-end : ◌≡◌ {A = Option TextFault} (Some (fault Range n 0)) None = sym (cond-true _ _ _ (eq-eqb i 0 first)) ∙ (unless_ok _ _ _ answer).0 in
      let z : ◌≡◌ {A = ℕ} 0 1 = cc in
      absurd (omega arith))
      (λ later. omega arith)
      (cases_eq i 0),
)
end_read n i m (Some line) answer =
    let some : None ≡ Some (row_of line) = (unless_ok _ _ _ answer).1 in
    let z : ◌≡◌ {A = ℕ} 0 1 = cc in
    absurd (omega arith)

pub no_pmt : (k : Kind) (m : ℕ) → (k ≡ Pmt → ⊥) → m ≡ m + cond (is_pmt k) 1 0
no_pmt Pass m other = omega arith
no_pmt Pmt m other = absurd (other refl)

-- these are the rows read, m of them `pmt`
pub record ReadRows (ls : List Bytes) (r : Reader) (rows : List Row) (m : ℕ) : Type 0 where
  pub at : At ls r (6 + parents ls + length rows)
  pub few : length rows ≤ 64
  pub are : rows ≡ take (length rows) (map_rows ls)
  pub count : m ≡ pmts rows
  pub pmt : pmts rows ≤ 42
  pub range : RowsInRange rows

pub same_rows : {ls : List Bytes} {r : Reader} {rows others : List Row} {m n : ℕ} → others ≡ rows → n ≡ m → ReadRows ls r rows m → ReadRows ls r others n
same_rows {ls} {r} p q read = subst₂ (ReadRows ls r) (sym p) (sym q) read

module _ (ls : List Bytes) (r s : Reader) (rows : List Row) (m : ℕ) (read : ReadRows ls r rows m) (l : Line) (next : Next r l s) (i : ℕ) (count : i ≡ length rows) where
  -- the answer of the next line, as map row i
  abbrev answer : ℕ → Result (Option Row) TextFault
  answer k = unless (wrong l (map_row k m)) (option_map row_of (bytes_of l))

  place_is : place ls (6 + parents ls + length rows) ≡ map_row (length rows) m
  place_is = place_row ls (length rows) ∙ ap (map_row (length rows)) (ap pmts (sym read.are) ∙ sym read.count)

  pub row_wrong_here : (e : TextFault) → Err e ≡ answer i → First ls e
  row_wrong_here e err = bad read.at next _ place_is _ e (err ∙ ap answer count)

  pub row_more : (row : Row) → Ok (Some row) ≡ answer i → ReadRows ls s (rows ++ row ∷ []) (m + cond (is_pmt row.kind) 1 0)
  row_more row told =
      let ok : Ok (Some row) ≡ answer (length rows) = told ∙ ap answer count in
      let got = row_read _ (length rows) m row (bytes_of l) ok in
      let on = goes_on ls r _ read.at l s next _ place_is (unless_ok _ _ _ ok).0 got.line got.is in
      let long : length (rows ++ row ∷ []) ≡ length rows + 1 = length_push rows row in
      let line : slice_get ls (6 + parents ls + length rows) ≡ Some got.line = sym (next.bytes ∙ here_is ls r _ read.at l s next) ∙ got.is in
      record {
        at = subst (At ls s) (omega (arith, long)) on;
        few = omega (arith, long, got.few);
        are =
            (λ k. read.are k ++ got.row_is k ∷ [])
            ∙ sym (take_nth (map_rows ls) (length rows) (row_of got.line) (nth_rows ls (length rows) got.line line))
            ∙ ap (λ n. take n (map_rows ls)) (sym long);
        count = ap (λ k. k + cond (is_pmt row.kind) 1 0) read.count ∙ sym (pmts_push rows row);
        pmt =
            let now-many = got.pmt (omega (arith, read.count, read.pmt)) in
            omega (arith, pmts_push rows row, read.count, now-many);
        range = λ x has. ⊎_elim (λ old. read.range x old) (λ new. subst RowInRange new got.range) (has_push_cases rows row x has);
      }

  pub rows_done : Ok None ≡ answer i → At ls s (length ls) × RowsRead ls rows
  rows_done told =
      let ok : Ok None ≡ answer (length rows) = told ∙ ap answer count in
      let got = end_read _ (length rows) m (bytes_of l) ok in
      let all = ends ls r _ read.at l s next _ place_is (unless_ok _ _ _ ok).0 got.0 in
      let long = length_rows ls in
      (all.0, (all.1, read.are ∙ take_all (length rows) (map_rows ls) (omega (arith, long, all.2)), ((got.1, read.few), read.pmt), read.range))
