-- From line to line: what has been found right, and the first fault.
use Rattle.std.proofs.Common.{◌≡◌, ℕ, zero, suc, ◌+◌, ◌<◌, ◌≤◌, cond, List, [], ◌∷◌, length, get_or, is_some, IsErrAnd, Some, None, Ok, Err, Option, Result, sym, refl, ap, ◌∙◌, subst, zero-le, add-one, arith, below_more}
use Rattle.std.specs.List.{slice_get}
use Rattle.config.specs.declared.fault.ConfigFault.{ConfigFault}
use Rattle.config.specs.declared.fault.ConfigFault.TheVariants.{Text}
use Rattle.config.specs.declared.fault.TextFault.{TextFault}
use Rattle.config.specs.declared.line.Line.{Line}
use Rattle.config.specs.declared.reader.Reader.{Reader}
use Rattle.config.specs.Layout.{Place, names, settings, gap, place, wrong_at, fault_at, end_wrong}
use Rattle.config.specs.Reading.{unless, text_lines, next_line, Next, bytes_of, of_line, wrong}
use Rattle.config.specs.Text.{Bytes, lines}
use Rattle.config.specs.Walk.{Right, First, At, Reads, ReadsInMemory}
use Rattle.config.proofs.Lines.{unless_ok, unless_err}

pub begun : (r : Reader) → r.line ≡ 0 → At (text_lines r) r 0
begun r start = record { text = refl; line = start; inside = zero-le; right = λ k lt. absurd (omega arith) }

nth_inside : {X : Type 0} (xs : List X) (k : ℕ) (x : X) → slice_get xs k ≡ Some x → k < length xs
nth_inside [] k x is = let z : ◌≡◌ {A = ℕ} 0 1 = cc in absurd (omega arith)
nth_inside (y ∷ xs) zero x is = omega arith
nth_inside (y ∷ xs) (suc k) x is = let h = nth_inside xs k x is in omega arith

nth_past_end : {X : Type 0} (xs : List X) (k : ℕ) → slice_get xs k ≡ None → length xs ≤ k
nth_past_end [] k none = zero-le
nth_past_end (y ∷ xs) zero none = let z : ◌≡◌ {A = ℕ} 0 1 = cc in absurd (omega arith)
nth_past_end (y ∷ xs) (suc k) none = let h = nth_past_end xs k none in omega arith

module _ (ls : List Bytes) (r : Reader) (k : ℕ) (at : At ls r k) (l : Line) (s : Reader) (next : Next r l s) where
  pub here_is : next_line r ≡ slice_get ls k
  here_is = λ i. slice_get (at.text i) (at.line i)

  pub wrong_is : (p : Place) → place ls k ≡ p → fault_at ls k ≡ wrong l p
  unfolding fault_at
  wrong_is p is =
      let number : suc k ≡ l.number = sym (next.number ∙ ap suc at.line) in
      let bytes : slice_get ls k ≡ bytes_of l = sym (next.bytes ∙ here_is) in
      λ i. wrong_at (number i) (is i) (bytes i)

  pub stops : (p : Place) → place ls k ≡ p → (e : TextFault) → wrong l p ≡ Some e → First ls e
  stops p is e bad = record { at = k; inside = at.inside; before = at.right; here = wrong_is p is ∙ bad }

  right_more : (p : Place) → place ls k ≡ p → wrong l p ≡ None → Right ls (k + 1)
  right_more p is ok = below_more _ _ at.right (wrong_is p is ∙ ok)

  -- the line is there
  pub goes_on : (p : Place) → place ls k ≡ p → wrong l p ≡ None → (b : Bytes) → bytes_of l ≡ Some b → At ls s (k + 1)
  goes_on p is ok b there =
      let line : slice_get ls k ≡ Some b = sym (next.bytes ∙ here_is) ∙ there in
      let some : ◌≡◌ {A = ℕ} (cond (is_some (next_line r)) 1 0) 1 = ap (λ o. cond (is_some o) 1 0) (here_is ∙ line) in
      record {
        text = ap lines next.same ∙ at.text;
        line = omega (arith, next.behind, some, at.line);
        inside = omega (arith, nth_inside ls k b line);
        right = right_more p is ok;
      }

  -- the text ends here, as it may
  pub ends : (p : Place) → place ls k ≡ p → wrong l p ≡ None → bytes_of l ≡ None → At ls s (length ls) × Right ls (suc (length ls)) × (k ≡ length ls)
  ends p is ok none =
      let last : slice_get ls k ≡ None = sym (next.bytes ∙ here_is) ∙ none in
      let all : k ≡ length ls = omega (arith, at.inside, nth_past_end ls k last) in
      let stays : ◌≡◌ {A = ℕ} (cond (is_some (next_line r)) 1 0) 0 = ap (λ o. cond (is_some o) 1 0) (here_is ∙ last) in (
        record {
          text = ap lines next.same ∙ at.text;
          line = omega (arith, next.behind, stays, at.line, all);
          inside = omega arith;
          right = subst (Right ls) all at.right;
        },
        subst (Right ls) (add-one k ∙ ap suc all) (right_more p is ok),
        all,
      )

-- a place at which the text may not end
abbrev pub Needed : Place → Type 0
Needed p = (n : ℕ) → end_wrong n p ≡ None → ⊥

pub needed_names : (words : Bytes) → Needed (names words)
unfolding end_wrong
needed_names words n e = let z : ◌≡◌ {A = ℕ} 0 1 = cc in omega arith

pub needed_settings : Needed settings
unfolding end_wrong
needed_settings n e = let z : ◌≡◌ {A = ℕ} 0 1 = cc in omega arith

pub needed_gap : Needed gap
unfolding end_wrong
needed_gap n e = let z : ◌≡◌ {A = ℕ} 0 1 = cc in omega arith

pub there : (l : Line) (p : Place) → Needed p → wrong l p ≡ None → (b : Bytes) × (bytes_of l ≡ Some b)
there l p needed ok = by (bytes_of l) refl
  where
    by : (o : Option Bytes) → bytes_of l ≡ o → (b : Bytes) × (bytes_of l ≡ Some b)
    by None is = absurd (needed l.number (sym (ap (wrong_at l.number p) is) ∙ ok))
    by (Some b) is = (b, is)

-- one line of a part that the text needs, right: what it says, and where the reader is then
pub more : {ls : List Bytes} {r s : Reader} {k : ℕ} {l : Line} → At ls r k → Next r l s → (p : Place) → Needed p → place ls k ≡ p → {V : Type 0} (v x : V) → Ok x ≡ unless (wrong l p) v → At ls s (k + 1)
more {ls} {r} {s} {k} {l} at next p needed is v x ok =
    let right = (unless_ok (wrong l p) v x ok).0 in
    let line = there l p needed right in
    goes_on ls r k at l s next p is right line.0 line.1

-- or wrong
pub bad : {ls : List Bytes} {r s : Reader} {k : ℕ} {l : Line} → At ls r k → Next r l s → (p : Place) → place ls k ≡ p → {V : Type 0} (v : V) (e : TextFault) → Err e ≡ unless (wrong l p) v → First ls e
bad {ls} {r} {s} {k} {l} at next p is v e err = stops ls r k at l s next p is e (unless_err (wrong l p) v e err)

pub reads_err : {V : Type 0} (ls : List Bytes) (r : Reader) (k : ℕ) (says : V → Type 0) (res : Result V TextFault) (e : TextFault) → IsErrAnd res (λ y. y ≡ e) → First ls e → Reads ls r k says res
reads_err ls r k says (Ok v) e by first = absurd by
reads_err ls r k says (Err f) e by first = subst (First ls) (sym by) first

-- what is read of the line behind k lines
pub of_nth : {V : Type 0} (f : Bytes → V) (ls : List Bytes) (k : ℕ) → of_line f (slice_get ls k) ≡ f (get_or ls k [])
of_nth f [] k = refl
of_nth f (l ∷ ls) zero = refl
of_nth f (l ∷ ls) (suc k) = of_nth f ls k

pub said : {ls : List Bytes} {r s : Reader} {k : ℕ} {l : Line} → At ls r k → Next r l s → {V : Type 0} (f : Bytes → V) → of_line f (bytes_of l) ≡ f (get_or ls k [])
said {ls} {r} {s} {k} {l} at next f = ap (of_line f) (next.bytes ∙ here_is ls r k at l s next) ∙ of_nth f ls k

pub memory_reads_err : {V : Type 0} (ls : List Bytes) (r : Reader) (k : ℕ) (says : V → Type 0) (res : Result V ConfigFault) (e : TextFault) → IsErrAnd res (λ y. y ≡ Text e) → First ls e → ReadsInMemory ls r k says res
memory_reads_err ls r k says (Ok v) e by first = absurd by
memory_reads_err ls r k says (Err f) e by first = subst (λ g. ReadsInMemory ls r k says (Err g)) (sym by) first
