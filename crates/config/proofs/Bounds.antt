-- A refusal names a line of the text or the one behind its last, and a field that its line could have.
use Rattle.std.proofs.Common.{◌≡◌, ℕ, zero, suc, ◌+◌, ◌<◌, ◌≤◌, Bool, true, false, cond, ◌&&◌, ◌||◌, eqb, ltb, leb, List, [], ◌∷◌, length, Some, None, Err, Option, sym, refl, ap, ◌∙◌, subst, zero-le, arith}
use Rattle.std.specs.List.{slice_get}
use Rattle.std.specs.Option.{option_or, option_map}
use Rattle.std.specs.Str.{bytes_eq}
use Rattle.std.proofs.lemmas.Bool.{cond_both, ltb-false}
use Rattle.config.specs.declared.fault.ConfigFault.{ConfigFault}
use Rattle.config.specs.declared.fault.ConfigFault.TheVariants.{Text, Clash, Memory}
use Rattle.config.specs.declared.fault.TextFault.{TextFault}
use Rattle.config.specs.declared.fault.TextRefusal.{TextRefusal}
use Rattle.config.specs.declared.fault.TextRefusal.TheVariants.{Names, Form, Range}
use Rattle.config.specs.declared.row.Row.{Row}
use Rattle.config.specs.Layout.{Rule, Place, names, settings, gap, parent, map_row, fault, leftmost, values_wrong, table_line, row_wrong, row_of, line_wrong, end_wrong, wrong_at, place, fault_at, settings_rules, parent_rules, row_rules, parents, map_rows, setup_of}
use Rattle.config.specs.Rows.{is_pmt}
use Rattle.config.specs.Text.{Bytes, onto, cut, lines, fields}
use Rattle.config.specs.Told.{text_number, Small}
use Rattle.config.specs.Verdict.{first, clash_of, clash_at, first_clash, unless_clash, unless_fault, verdict, Answers}
use Rattle.config.proofs.ThirdTable.{length_rows}

-- f is a fault of line n
abbrev OfLine : ℕ → TextFault → Type 0
OfLine n f = (f.line ≡ n) × (f.field ≤ 5)

module _ (n : ℕ) (f : TextFault) where
  is_named : (refusal : TextRefusal) (k : ℕ) → k ≤ 5 → ◌≡◌ {A = Option TextFault} (Some (fault refusal n k)) (Some f) → OfLine n f
  is_named refusal k few is =
      let same : fault refusal n k ≡ f = cc in
      (sym (ap (λ (e : TextFault). e.line) same), subst (λ m. m ≤ 5) (ap (λ (e : TextFault). e.field) same) few)

  never : {A : Type 0} → ◌≡◌ {A = Option TextFault} None (Some f) → A
  never e = let z : ◌≡◌ {A = ℕ} 0 1 = cc in absurd (omega arith)

  -- one of two faults, each of the line
  either : (o p : Option TextFault) → (o ≡ Some f → OfLine n f) → (p ≡ Some f → OfLine n f) → option_or o p ≡ Some f → OfLine n f
  either None p left right e = right e
  either (Some x) p left right e = left e

  tested : (b : Bool) (o p : Option TextFault) → (o ≡ Some f → OfLine n f) → (p ≡ Some f → OfLine n f) → cond b o p ≡ Some f → OfLine n f
  tested true o p left right e = left e
  tested false o p left right e = right e

  at_rule : (k : ℕ) (o : Option TextRefusal) → k ≤ 5 → option_map (λ refusal. fault refusal n k) o ≡ Some f → OfLine n f
  at_rule k None few e = never e
  at_rule k (Some refusal) few e = is_named refusal k few e

  by_leftmost : (k : ℕ) (rules : List Rule) (fs : List Bytes) → k + length rules ≤ 6 → leftmost n k rules fs ≡ Some f → OfLine n f
  by_leftmost k [] fs few e = never e
  by_leftmost k (r ∷ rules) [] few e = never e
  by_leftmost k (r ∷ rules) (g ∷ fs) few e =
      either (option_map (λ refusal. fault refusal n k) (r g)) (leftmost n (suc k) rules fs)
      (at_rule k (r g) (omega arith))
      (by_leftmost (suc k) rules fs (omega arith))
      e

  by_values : (rules : List Rule) (line : Bytes) → length rules ≤ 5 → values_wrong n rules line ≡ Some f → OfLine n f
  unfolding values_wrong
  by_values rules line few e =
      tested (eqb (length (fields line)) (length rules)) _ _ (by_leftmost 1 rules (fields line) (omega arith)) (is_named Form 0 zero-le) e

  by_table : (most i : ℕ) (line : Bytes) (o : Option TextFault) → (o ≡ Some f → OfLine n f) → table_line n most i line o ≡ Some f → OfLine n f
  by_table most i line o inner e =
      tested (leb most i || (eqb i 0 && eqb (length line) 0)) (Some (fault Range n 0)) o (is_named Range 0 zero-le) inner e

  by_row : (m : ℕ) (line : Bytes) → row_wrong n m line ≡ Some f → OfLine n f
  by_row m line e =
      either _ _
      (by_values (row_rules (row_of line).kind) line (omega arith))
      (tested (is_pmt (row_of line).kind && leb 42 m) (Some (fault Range n 0)) None (is_named Range 0 zero-le) never)
      e

  by_line : (p : Place) (line : Bytes) → line_wrong n p line ≡ Some f → OfLine n f
  unfolding line_wrong
  by_line (names words) line e = tested (bytes_eq line words) None (Some (fault Names n 0)) never (is_named Names 0 zero-le) e
  by_line settings line e = by_table 1 0 line _ (by_values settings_rules line (omega arith)) e
  by_line gap line e = tested (eqb (length line) 0) None (Some (fault Range n 0)) never (is_named Range 0 zero-le) e
  by_line (parent i) line e = by_table 4 i line _ (by_values (parent_rules i) line (omega arith)) e
  by_line (map_row i m) line e = by_table 64 i line _ (by_row m line) e

  by_end : (p : Place) → end_wrong n p ≡ Some f → OfLine n f
  unfolding end_wrong
  by_end (names words) e = is_named Names 0 zero-le e
  by_end settings e = is_named Range 0 zero-le e
  by_end gap e = is_named Names 0 zero-le e
  by_end (parent i) e = is_named Range 0 zero-le e
  by_end (map_row i m) e = tested (eqb i 0) (Some (fault Range n 0)) None (is_named Range 0 zero-le) never e

  by_place : (p : Place) (o : Option Bytes) → wrong_at n p o ≡ Some f → OfLine n f
  by_place p None e = by_end p e
  by_place p (Some line) e = by_line p line e

-- the first answer is one of them
found_at : {X : Type 0} (f : ℕ → Option X) (k n : ℕ) (x : X) → first f k n ≡ Some x → (j : ℕ) × (j < k + n) × (f j ≡ Some x)
found_at f k zero x e = let z : ◌≡◌ {A = ℕ} 0 1 = cc in absurd (omega arith)
found_at {X} f k (suc n) x e = by (f k) refl e (found_at f (suc k) n x)
  where
    by : (o : Option X) → f k ≡ o → option_or o (first f (suc k) n) ≡ Some x → (first f (suc k) n ≡ Some x → (j : ℕ) × (j < suc k + n) × (f j ≡ Some x)) → (j : ℕ) × (j < k + suc n) × (f j ≡ Some x)
    by (Some y) is e2 later = (k, omega arith, is ∙ e2)
    by None is e2 later = let h = later e2 in (h.0, omega (arith, h.1), h.2)

short_onto : (b : ℕ) (ps : List Bytes) → length (onto b ps) ≤ suc (length ps)
short_onto b [] = omega arith
short_onto b (p ∷ ps) = omega arith

-- a text has at most as many lines as bytes
short_cut : (bs : Bytes) → length (cut 10 [] bs) ≤ length bs
short_cut [] = zero-le
short_cut (b ∷ bs) =
    let h = short_cut bs in
    let g = short_onto b (cut 10 [] bs) in
    cond_both (eqb b 10) ([] ∷ cut 10 [] bs) (onto b (cut 10 [] bs)) (λ ps. length ps ≤ length (b ∷ bs)) (λ e. omega arith) (λ e. omega arith)

short_lines : (text : Bytes) → length (lines text) ≤ length text
unfolding lines
short_lines text = short_cut text

clash_index : (listed : ℕ) (rows : List Row) (j i : ℕ) → clash_at listed rows j ≡ Some i → i ≡ j
unfolding clash_at
clash_index listed rows j i e = by (slice_get rows j) e
  where
    by : (o : Option Row) → clash_of listed rows j o ≡ Some i → i ≡ j
    by None e2 = let z : ◌≡◌ {A = ℕ} 0 1 = cc in absurd (omega arith)
    by (Some r) e2 = pick _ e2
      where
        pick : (b : Bool) → cond b (Some j) None ≡ Some i → i ≡ j
        pick true e3 = cc
        pick false e3 = let z : ◌≡◌ {A = ℕ} 0 1 = cc in absurd (omega arith)

small_number : (refusal : TextRefusal) → text_number refusal ≤ 4
small_number Names = omega arith
small_number Form = omega arith
small_number Range = omega arith

small_text : (f : TextFault) → f.line ≤ 16_385 → f.field ≤ 5 → Small (Text f)
small_text f at few = (small_number f.refusal, at, few)

module _ (ls : List Bytes) (few : length ls ≤ 16_384) where
  small_clash : (i : ℕ) → first_clash (length (setup_of ls).rates) (setup_of ls).rows ≡ Some i → Small (Clash (7 + parents ls + i))
  unfolding first_clash setup_of
  small_clash i e =
      let found = found_at (clash_at _ (map_rows ls)) 0 (length (map_rows ls)) i e in
      let same = clash_index _ (map_rows ls) found.0 i found.2 in
      (omega arith, omega (arith, found.1, same, length_rows ls), zero-le)

  by_clash : (o : Option ℕ) → first_clash (length (setup_of ls).rates) (setup_of ls).rows ≡ o → (g : ConfigFault) → unless_clash ls o ≡ Err g → Small g
  by_clash None is g e = let z : ◌≡◌ {A = ℕ} 0 1 = cc in absurd (omega arith)
  by_clash (Some i) is g e = let same : Clash (7 + parents ls + i) ≡ g = cc in subst Small same (small_clash i is)

  by_fault : (o : Option TextFault) → ((f : TextFault) → o ≡ Some f → Small (Text f)) → (g : ConfigFault) → unless_fault ls o ≡ Err g → Small g
  by_fault None small g e = by_clash _ refl g e
  by_fault (Some f) small g e = let same : Text f ≡ g = cc in subst Small same (small f refl)

  small_fault : (f : TextFault) → first (fault_at ls) 0 (suc (length ls)) ≡ Some f → Small (Text f)
  unfolding fault_at
  small_fault f e =
      let found = found_at (fault_at ls) 0 (suc (length ls)) f e in
      let at = by_place (suc found.0) f (place ls found.0) (slice_get ls found.0) found.2 in
      small_text f (omega (arith, found.1, at.0)) at.1

small : (text : Bytes) (g : ConfigFault) → verdict text ≡ Err g → Small g
unfolding verdict
small text g e = by (ltb 16_384 (length text)) refl e
  where
    by : (b : Bool) → ltb 16_384 (length text) ≡ b → unless_fault (lines text) (option_or (cond b (Some (fault Names 0 0)) None) (first (fault_at (lines text)) 0 (suc (length (lines text))))) ≡ Err g → Small g
    by true long e2 = let same : Text (fault Names 0 0) ≡ g = cc in subst Small same (small_text (fault Names 0 0) zero-le zero-le)
    by false fits e2 =
        let few : length (lines text) ≤ 16_384 = omega (arith, short_lines text, ltb-false 16_384 (length text) fits) in
        by_fault (lines text) few _ (small_fault (lines text) few) g e2

pub small_answer : (text : Bytes) (g : ConfigFault) → Answers text (Err g) → Small g
small_answer text (Text f) e = small text (Text f) e
small_answer text (Clash n) e = small text (Clash n) e
small_answer text Memory e = (zero-le, zero-le, zero-le)
