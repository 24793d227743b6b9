-- Letting go and restarting, for all parents one after the other.
use Rattle.std.proofs.Common.{◌≡◌, ℕ, ◌+◌, ◌<◌, ◌≤◌, max, cond, ltb, ◌≢◌, List, [], ◌∷◌, ◌++◌, map, length, get_or, drop, set, Some, None, Option, sym, refl, ap, ◌∙◌, subst, ⊎_elim, arith}
use lib.ListN.{get_or-map}
use Rattle.std.proofs.lemmas.List.{get_or-set_same, get_or-set_other, length-set, ext_get_or, length-map}
use Rattle.std.proofs.lemmas.Bool.{cases_eq}
use Rattle.std.specs.Option.{option_to_list}
use Rattle.waiting.specs.Waiting as waiting
use Rattle.rules.specs.Entries.{Entry}
use Rattle.rules.specs.Slots.{Frame}
use Rattle.rules.specs.Calls.{records_from}
use Rattle.rules.specs.Entries.{from_on}
use Rattle.adapter.specs.Parents.{parent_of, moved, latest_of}
use Rattle.adapter.specs.declared.times.Times.{Times}

pub entries_from : (m : ℕ) (l : List Entry) → waiting.from_on (λ (e : Entry). e.arrival) m l ≡ from_on m l
entries_from m [] = refl
entries_from m (e ∷ l) = ap (λ y. cond (ltb e.arrival m) y (e ∷ l)) (entries_from m l)

pub frames_from : (m : ℕ) (l : List Frame) → waiting.from_on (λ (f : Frame). f.start) m l ≡ records_from m l
frames_from m [] = refl
frames_from m (f ∷ l) = ap (λ y. cond (ltb f.start m) y (f ∷ l)) (frames_from m l)

pub rest_is : (xs ys : List Frame) (r : Option Frame) → r ≡ waiting.oldest xs → xs ≡ option_to_list r ++ ys → ys ≡ drop 1 xs
rest_is [] ys None e h = sym h
rest_is [] ys (Some x) e h = let z : ◌≡◌ {A = ℕ} 0 1 = cc in absurd (omega arith)
rest_is (x ∷ xs) ys None e h = let z : ◌≡◌ {A = ℕ} 0 1 = cc in absurd (omega arith)
rest_is (x ∷ xs) ys (Some y) e h = cc

-- R so far: the parents before p have an anchor, and this is the latest of their from-times
pub record Latest-below (ts : List (Option Times)) (p latest : ℕ) : Type 0 where
  pub known : (q : ℕ) → q < p → get_or ts q None ≡ None → ⊥
  pub rest : max latest (latest_of (drop p ts)) ≡ latest_of ts

-- the from-times of the parents before n are another
pub record Restarted-below (m n : ℕ) (before after : List (Option Times)) : Type 0 where
  pub many : length after ≡ length before
  pub lower : (p : ℕ) (line : List Entry) → p < n → parent_of (get_or after p None) line ≡ moved m (parent_of (get_or before p None) line)
  pub others : (p : ℕ) → n ≤ p → get_or after p None ≡ get_or before p None

-- the lines of the first n parents are cut
pub record Cut-below (m n : ℕ) (ls₀ ls : List (List Entry)) : Type 0 where
  pub many : length ls ≡ length ls₀
  pub lower : (q : ℕ) → q < n → get_or ls q [] ≡ from_on m (get_or ls₀ q [])
  pub others : (q : ℕ) → n ≤ q → get_or ls q [] ≡ get_or ls₀ q []

pub cut_one : (m p : ℕ) (ls₀ ls ls' : List (List Entry)) → p < length ls → Cut-below m p ls₀ ls → ls' ≡ set ls p (from_on m (get_or ls p [])) → Cut-below m (p + 1) ls₀ ls'
cut_one m p ls₀ ls ls' within h is =
    subst (Cut-below m (p + 1) ls₀) (sym is)
    (record {
      many = length-set ls p (from_on m (get_or ls p [])) ∙ h.many;
      lower = λ q k.
          ⊎_elim
          (λ (same : q ≡ p).
          subst (λ i. get_or (set ls p (from_on m (get_or ls p []))) i [] ≡ from_on m (get_or ls₀ i [])) (sym same)
          (get_or-set_same ls p (from_on m (get_or ls p [])) [] within ∙ ap (from_on m) (h.others p (omega arith))))
          (λ (other : q ≢ p). get_or-set_other ls p q (from_on m (get_or ls p [])) [] other ∙ h.lower q (omega arith))
          (cases_eq q p);
      others = λ q k. get_or-set_other ls p q (from_on m (get_or ls p [])) [] (λ same. omega arith) ∙ h.others q (omega arith);
    })

pub cut_all : (m : ℕ) (ls₀ ls : List (List Entry)) → Cut-below m (length ls₀) ls₀ ls → ls ≡ map (from_on m) ls₀
cut_all m ls₀ ls h =
    ext_get_or [] ls (map (from_on m) ls₀) (h.many ∙ sym (length-map ls₀ (from_on m)))
    (λ q k. h.lower q (omega (arith, h.many)) ∙ sym (get_or-map (from_on m) ls₀ q []))
