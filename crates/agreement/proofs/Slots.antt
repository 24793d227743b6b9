-- From the first byte at which two texts differ to the first slot. Assumes nothing.
use Rattle.std.proofs.Common.{◌≡◌, ℕ, ◌+◌, ◌*◌, ◌/◌, ◌<◌, ◌≤◌, min, suc, not, cond, ltb, eqb, List, [], ◌∷◌, ◌++◌, length, get_or, take, drop, Option, Some, None, refl, sym, ap, ◌∙◌, ap₂, ⊎_elim, arith}
use Rattle.std.proofs.lemmas.List.{take_all, take-take, take-append-drop, drop-take, get_or-take, length-take}
use Rattle.std.proofs.lemmas.List.Quantifiers.{position-Some}
use Rattle.std.proofs.lemmas.Bool.{cases_lt, cond_both, cond-true, eqb-true, eqb-false, lt-ltb, ltb-true, ltb-false, not-true, not-false}
use Rattle.std.proofs.lemmas.Slice.Zip.{length-zip, get_or-zip}
use Rattle.std.specs.List.{zip, position, position_or_len}
use Rattle.std.specs.Option.{option_map, option_or}
use Rattle.agreement.specs.Agreement.{slot, PartsAt, FirstDifference}

-- texts that have the same n bytes in front have the same fewer bytes in front
pub fewer : (m n : ℕ) (x y : List ℕ) → m ≤ n → take n x ≡ take n y → take m x ≡ take m y
fewer m n x y le same = sym (take-take m n x le) ∙ ap (take m) same ∙ take-take m n y le

-- the bytes up to the end of a slot
pub with_slot : (s : ℕ) (x : List ℕ) → take (s * 188 + 188) x ≡ take (s * 188) x ++ slot s x
with_slot s x =
    sym (take-append-drop (s * 188) (take (s * 188 + 188) x))
    ∙ ap₂ ◌++◌ (take-take (s * 188) (s * 188 + 188) x (omega arith)) (drop-take (s * 188) 188 x)

pub slots_before : (x y : List ℕ) (i k : ℕ) → take i x ≡ take i y → k < i / 188 → slot k x ≡ slot k y
slots_before x y i k same lt =
    sym (drop-take (k * 188) 188 x) ∙ ap (drop (k * 188)) (fewer (k * 188 + 188) i x y (omega arith) same) ∙ drop-take (k * 188) 188 y

pub slot_differs : (x y : List ℕ) (i : ℕ) → take i x ≡ take i y → (take (i + 1) x ≡ take (i + 1) y → ⊥) → slot (i / 188) x ≡ slot (i / 188) y → ⊥
slot_differs x y i same differ eq =
    let s = i / 188 in
    let front : take (s * 188) x ≡ take (s * 188) y = fewer (s * 188) i x y (omega arith) same in
    differ (fewer (i + 1) (s * 188 + 188) x y (omega arith) (with_slot s x ∙ ap₂ ◌++◌ front eq ∙ sym (with_slot s y)))

-- texts that differ at i
pub not_same_at : (x y : List ℕ) (i : ℕ) → (get_or x i 0 ≡ get_or y i 0 → ⊥) → take (i + 1) x ≡ take (i + 1) y → ⊥
not_same_at x y i differ same =
    differ (sym (get_or-take (i + 1) x i 0 (omega arith)) ∙ ap (λ l. get_or l i 0) same ∙ get_or-take (i + 1) y i 0 (omega arith))

-- texts of which the one goes on behind the other's end
pub not_same_past : (x y : List ℕ) (i : ℕ) → length x ≤ i → i < length y → take (i + 1) x ≡ take (i + 1) y → ⊥
not_same_past x y i short long same = omega (arith, ap length same, length-take (i + 1) x, length-take (i + 1) y)

-- how many bytes two texts have in common, from the front on
abbrev shared : List ℕ → List ℕ → ℕ
shared x y = position_or_len (λ p. not (eqb p.0 p.1)) (zip x y)

same_front : (x y : List ℕ) → take (shared x y) x ≡ take (shared x y) y
same_front [] y = refl
same_front (a ∷ x) [] = refl
same_front (a ∷ x) (b ∷ y) =
    cond_both (not (not (eqb a b))) (1 + shared x y) 0 (λ n. take n (a ∷ x) ≡ take n (b ∷ y))
    (λ same. let more : 1 + shared x y ≡ suc (shared x y) = omega arith in rw more (λ i. eqb-true a b (not-false _ (not-true _ same)) i ∷ same_front x y i))
    (λ other. refl)

then_other : (x y : List ℕ) → shared x y < length (zip x y) → get_or x (shared x y) 0 ≡ get_or y (shared x y) 0 → ⊥
then_other x y within =
    let n = shared x y in
    let first = position-Some (λ p. not (eqb p.0 p.1)) (zip x y) n (0, 0) (cond-true _ _ _ (lt-ltb _ _ within)) in
    let both : length (zip x y) ≡ min (length x) (length y) = length-zip x y in
    eqb-false _ _ (not-true _ (ap (λ p. not (eqb p.0 p.1)) (sym (get_or-zip x y n (0, 0) (omega arith) (omega arith))) ∙ first.1))

-- where the bytes that stand side by side are equal, the shorter text is the front of the other
at_end : (x y : List ℕ) → length (zip x y) ≤ shared x y → PartsAt x y (cond (eqb (length x) (length y)) None (Some (min (length x) (length y))))
at_end x y past =
    let n = shared x y in
    let both : length (zip x y) ≡ min (length x) (length y) = length-zip x y in
    cond_both (eqb (length x) (length y)) None (Some (min (length x) (length y))) (PartsAt x y)
    (λ same. let long = eqb-true _ _ same in sym (take_all n x (omega arith)) ∙ same_front x y ∙ take_all n y (omega arith))
    (λ other. (
      fewer (min (length x) (length y)) n x y (omega arith) (same_front x y),
      λ same. ⊎_elim
          (λ (less : length x < length y). not_same_past x y (min (length x) (length y)) (omega arith) (omega arith) same)
          (λ (more : length y ≤ length x). let unlike = eqb-false _ _ other in not_same_past y x (min (length x) (length y)) (omega arith) (omega arith) (sym same))
          (cases_lt (length x) (length y)),
    ))

-- the first bytes that are other, or the end of the shorter text
pub parts_zipped : (x y : List ℕ) → PartsAt x y (option_or (position (λ p. not (eqb p.0 p.1)) (zip x y)) (cond (eqb (length x) (length y)) None (Some (min (length x) (length y)))))
parts_zipped x y =
    let end = cond (eqb (length x) (length y)) None (Some (min (length x) (length y))) in
    cond_both (ltb (shared x y) (length (zip x y))) (Some (shared x y)) None (λ o. PartsAt x y (option_or o end))
    (λ within. (same_front x y, not_same_at x y (shared x y) (then_other x y (ltb-true _ _ within))))
    (λ past. at_end x y (ltb-false _ _ past))

-- from the byte to its slot
pub slot_of_parts : (x y : List ℕ) (at : Option ℕ) → PartsAt x y at → FirstDifference x y (option_map (λ i. i / 188) at)
slot_of_parts x y None parts = parts
slot_of_parts x y (Some i) parts = (slot_differs x y i parts.0 parts.1, λ k less. slots_before x y i k parts.0 less)
