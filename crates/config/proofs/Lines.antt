-- What is wrong with a line, by its fields and its place in a table.
use Rattle.std.proofs.Common.{◌≡◌, ℕ, zero, suc, ◌+◌, ◌-◌, ◌<◌, Bool, true, false, cond, ◌&&◌, ◌||◌, eqb, leb, List, [], ◌∷◌, length, get_or, drop, Some, None, Ok, Err, Option, sym, refl, ap, ◌∙◌, ⊎_elim, add-zero, add-one, arith, length-drop}
use Rattle.std.specs.List.{slice_get}
use Rattle.std.specs.Option.{option_or, option_map}
use Rattle.std.proofs.lemmas.List.{drop_more, drop-drop, get_or-drop}
use Rattle.std.proofs.lemmas.Bool.{eq-eqb, ne_eqb, cond-true, cond-false, cases_eq, eqb-true, or_parts, leb-false}
use Rattle.config.specs.declared.fault.TextRefusal.{TextRefusal}
use Rattle.config.specs.declared.fault.TextRefusal.TheVariants.{Form, Range}
use Rattle.config.specs.declared.fault.TextFault.{TextFault}
use Rattle.config.specs.declared.fields.Fields.{Fields}
use Rattle.config.specs.Layout.{Rule, fault, field_at, leftmost, values_wrong, table_line}
use Rattle.config.specs.Reading.{unless, next_field, IsNext, Moved, count_wrong, field_wrong}
use Rattle.config.specs.Text.{Bytes, fields}

-- what `unless` says of what it answers
pub unless_ok : {E V : Type 0} (o : Option E) (v x : V) → Ok x ≡ unless o v → (o ≡ None) × (x ≡ v)
unless_ok None v x e = (refl, cc)
unless_ok (Some r) v x e = let z : ◌≡◌ {A = ℕ} 0 1 = cc in absurd (omega arith)

pub unless_err : {E V : Type 0} (o : Option E) (v : V) (d : E) → Err d ≡ unless o v → o ≡ Some d
unless_err None v d e = let z : ◌≡◌ {A = ℕ} 0 1 = cc in absurd (omega arith)
unless_err (Some r) v d e = cc

pub or_other_none : {X : Type 0} (o p : Option X) → option_or o p ≡ None → (o ≡ None) × (p ≡ None)
or_other_none None p e = (refl, e)
or_other_none (Some x) p e = let z : ◌≡◌ {A = ℕ} 0 1 = cc in absurd (omega arith)

mapped_none : {X Y : Type 0} (g : X → Y) (o : Option X) → option_map g o ≡ None → o ≡ None
mapped_none g None e = refl
mapped_none g (Some x) e = let z : ◌≡◌ {A = ℕ} 0 1 = cc in absurd (omega arith)

-- the next field, by the line, and the one behind it
module _ (k : ℕ) (f : Fields) (is : IsNext k f) where
  pub next_is : next_field f ≡ field_at f.bytes.now (k - 1)
  next_is = ap (λ fs. get_or fs 0 []) is.rest ∙ get_or-drop (k - 1) (fields f.bytes.now) 0 [] ∙ ap (λ i. get_or (fields f.bytes.now) i []) (add-zero (k - 1))

  pub moved_on : (g : Fields) → Moved f g → IsNext (k + 1) g
  moved_on g moved =
      let behind : (k - 1) + 1 ≡ (k + 1) - 1 = omega (arith, is.counted) in
      record {
        counted = omega arith;
        rest =
            moved.rest
            ∙ ap (drop 1) is.rest
            ∙ drop-drop 1 (k - 1) (fields f.bytes.now)
            ∙ ap (λ i. drop i (fields f.bytes.now)) behind
            ∙ ap (λ bs. drop ((k + 1) - 1) (fields bs)) (sym moved.same_bytes);
      }

-- the leftmost field that breaks its rule, field by field
abbrev pub fields_wrong : ℕ → ℕ → List Rule → Bytes → Option TextFault
fields_wrong n k [] line = None
fields_wrong n k (r ∷ rs) line = option_or (field_wrong n k line r) (fields_wrong n (suc k) rs line)

by_fields : (n k : ℕ) (rules : List Rule) (line : Bytes) → length (drop k (fields line)) ≡ length rules → leftmost n (suc k) rules (drop k (fields line)) ≡ fields_wrong n (suc k) rules line
by_fields n k [] line long = refl
by_fields n k (r ∷ rs) line long =
    let some : k < length (fields line) = omega (arith, length-drop k (fields line)) in
    let at : k ≡ suc k - 1 = omega arith in
    let more = by_fields n (suc k) rs line (omega (arith, length-drop k (fields line), length-drop (suc k) (fields line))) in
    (λ i. leftmost n (suc k) (r ∷ rs) (drop_more (fields line) k [] some i))
    ∙ ap (λ j. option_or (option_map (λ refusal. fault refusal n (suc k)) (r (field_at line j))) (leftmost n (suc (suc k)) rs (drop (k + 1) (fields line)))) at
    ∙ ap (λ j. option_or (field_wrong n (suc k) line r) (leftmost n (suc (suc k)) rs (drop j (fields line)))) (add-one k)
    ∙ ap (λ o. option_or (field_wrong n (suc k) line r) o) more

-- what is wrong with a line of values: its count of fields, or its leftmost wrong field
pub values_by_fields : (n : ℕ) (rules : List Rule) (line : Bytes) → values_wrong n rules line ≡ option_or (count_wrong n (length rules) line) (fields_wrong n 1 rules line)
unfolding values_wrong
values_by_fields n rules line = by (eqb (length (fields line)) (length rules)) refl
  where
    by : (b : Bool) → eqb (length (fields line)) (length rules) ≡ b → cond b (leftmost n 1 rules (fields line)) (Some (fault Form n 0)) ≡ option_or (cond b None (Some (fault Form n 0))) (fields_wrong n 1 rules line)
    by true is = by_fields n 0 rules line (eqb-true _ _ is)
    by false is = refl

-- whether a line may stand in its table comes before its fields
module _ (n most i : ℕ) (line : Bytes) (in-fields : Option TextFault) where
  pub may_stand : table_line n most i line None ≡ None → table_line n most i line in-fields ≡ in-fields
  may_stand ok = by (leb most i || (eqb i 0 && eqb (length line) 0)) ok
    where
      by : (b : Bool) → cond b (Some (fault Range n 0)) None ≡ None → cond b (Some (fault Range n 0)) in-fields ≡ in-fields
      by true e = let z : ◌≡◌ {A = ℕ} 0 1 = cc in absurd (omega arith)
      by false e = refl

  pub may_not_stand : (f : TextFault) → table_line n most i line None ≡ Some f → table_line n most i line in-fields ≡ Some f
  may_not_stand f bad = by (leb most i || (eqb i 0 && eqb (length line) 0)) bad
    where
      by : (b : Bool) → cond b (Some (fault Range n 0)) None ≡ Some f → cond b (Some (fault Range n 0)) in-fields ≡ Some f
      by true e = e
      by false e = let z : ◌≡◌ {A = ℕ} 0 1 = cc in absurd (omega arith)

-- each field of a right line keeps its rule
leftmost_kept : (n j : ℕ) (rules : List Rule) (fs : List Bytes) → length fs ≡ length rules → leftmost n j rules fs ≡ None → (k : ℕ) (r : Rule) → slice_get rules k ≡ Some r → r (get_or fs k []) ≡ None
leftmost_kept n j [] fs long right k r is = let z : ◌≡◌ {A = ℕ} 0 1 = cc in absurd (omega arith)
leftmost_kept n j (q ∷ rules) [] long right k r is = absurd (omega arith)
leftmost_kept n j (q ∷ rules) (f ∷ fs) long right zero r is =
    let here = or_other_none (option_map (λ refusal. fault refusal n j) (q f)) (leftmost n (suc j) rules fs) right in
    ap (λ (p : Option Rule). by p) (sym is) ∙ mapped_none _ (q f) here.0
  where
    by : Option Rule → Option TextRefusal
    by None = None
    by (Some p) = p f
leftmost_kept n j (q ∷ rules) (f ∷ fs) long right (suc k) r is =
    let here = or_other_none (option_map (λ refusal. fault refusal n j) (q f)) (leftmost n (suc j) rules fs) right in
    leftmost_kept n (suc j) rules fs (omega arith) here.1 k r is

pub values_kept : (n : ℕ) (rules : List Rule) (line : Bytes) → values_wrong n rules line ≡ None → (k : ℕ) (r : Rule) → slice_get rules k ≡ Some r → r (field_at line k) ≡ None
unfolding values_wrong
values_kept n rules line right k r is =
    ⊎_elim
    (λ (long : length (fields line) ≡ length rules). leftmost_kept n 1 rules (fields line) long (sym (cond-true _ _ _ (eq-eqb _ _ long)) ∙ right) k r is)
    (λ other. let z : ◌≡◌ {A = Option TextFault} (Some (fault Form n 0)) None = sym (cond-false _ _ _ (ne_eqb _ _ other)) ∙ right in let y : ◌≡◌ {A = ℕ} 0 1 = cc in absurd (omega arith))
    (cases_eq (length (fields line)) (length rules))

-- a line that is right in its table
pub table_right : (n most i : ℕ) (line : Bytes) (in-fields : Option TextFault) → table_line n most i line in-fields ≡ None → (i < most) × ((eqb i 0 && eqb (length line) 0) ≡ false) × (in-fields ≡ None)
table_right n most i line in-fields right = by (leb most i || (eqb i 0 && eqb (length line) 0)) refl right
  where
    by : (b : Bool) → (leb most i || (eqb i 0 && eqb (length line) 0)) ≡ b → cond b (Some (fault Range n 0)) in-fields ≡ None → (i < most) × ((eqb i 0 && eqb (length line) 0) ≡ false) × (in-fields ≡ None)
    by true is e = let z : ◌≡◌ {A = ℕ} 0 1 = cc in absurd (omega arith)
    by false is e = let parts = or_parts (leb most i) (eqb i 0 && eqb (length line) 0) is in (leb-false most i parts.0, parts.1, e)
