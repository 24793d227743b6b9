-- What every adapter's invariants say, in the forms that `frame` needs.
use Rattle.std.proofs.Common.{◌≡◌, ℕ, zero, suc, ◌<◌, ◌≤◌, List, [], ◌∷◌, map, length, get_or, Some, None, vec_items, Option, sym, refl, ap, ◌∙◌, subst, ⊎_elim, arith}
use mathlib.Core.Logic.{∥∥₁_elim}
use native.Mathlib.Bridge.{le_prop}
use Rattle.std.proofs.lemmas.List.{get_or_past, length-map}
use Rattle.std.proofs.lemmas.Bool.{cases_lt}
use Rattle.memory.proofs.Shares.{length_lines}
use Rattle.memory.specs.Memory.{lines_in, line_in}
use Rattle.memory.specs.declared.Memory.{Memory}
use Rattle.waiting.specs.Waiting.{oldest}
use Rattle.rules.specs.Entries.{Entry}
use Rattle.rules.specs.Slots.{Frame}
use Rattle.rules.specs.Calls.{AllHeard, Silent}
use Rattle.rules.specs.State.{Hearing, Checked}
use Rattle.adapter.specs.Parents.{parent_of, moved, Restarted}
use Rattle.adapter.specs.View.{view, setup_of, entries_of}
use Rattle.adapter.specs.declared.state.Adapter.{Adapter}
use Rattle.adapter.specs.declared.times.Times.{Times}
use Rattle.adapter.proofs.Anchored.{Known, length_parents}
use Rattle.adapter.proofs.Fits.{AllInRange, fit}
use Rattle.adapter.proofs.Keeping.{Quiet}
use Rattle.adapter.proofs.Views.{parents_get_or}

pub checked : (a : Adapter) → Checked (setup_of a)
checked a = record { settings = a.config.in_range; parents = a.config.parents }

pub line_count : (a : Adapter) → length (lines_in a.memory) ≡ length (vec_items a.config.rates)
line_count a = omega (arith, length_lines a.memory, a.parents, a.config.rates.ok.0)

pub places_suffice : (a : Adapter) → length (lines_in a.memory) ≤ length a.heard
places_suffice a = omega (arith, line_count a, a.config.parents.0, a.places)

some_there : (hs : List Hearing) (p : ℕ) → p < length hs → get_or (map Some hs) p None ≡ None → ⊥
some_there [] p k e = omega arith
some_there (h ∷ hs) zero k e = let z : ◌≡◌ {A = ℕ} 0 1 = cc in omega arith
some_there (h ∷ hs) (suc p) k e = some_there hs p (omega arith) e

pub known_all : (a : Adapter) (hs : List Hearing) → AllHeard (view a) hs → Known a.heard (length (lines_in a.memory))
known_all a hs all =
    λ p k silent.
    let many : length hs ≡ length (lines_in a.memory) = sym (length-map hs Some) ∙ sym (ap length all) ∙ length_parents a.heard (lines_in a.memory) (places_suffice a) in
    some_there hs p (omega arith)
    (sym (ap (λ ps. get_or ps p None) all) ∙ parents_get_or a.heard (lines_in a.memory) p k (places_suffice a) ∙ ap (λ t. parent_of t (get_or (lines_in a.memory) p [])) silent)

pub silent_one : (a : Adapter) (p : ℕ) → p < length (lines_in a.memory) → get_or a.heard p None ≡ None → Silent (view a)
silent_one a p k is =
    record {
      parent = p;
      listed = let many = length_parents a.heard (lines_in a.memory) (places_suffice a) in omega arith;
      silent = parents_get_or a.heard (lines_in a.memory) p k (places_suffice a) ∙ ap (λ t. parent_of t (get_or (lines_in a.memory) p [])) is;
    }

pub waits_first : (fs : List Frame) (f : Frame) → oldest fs ≡ Some f → (rest : List Frame) × (fs ≡ f ∷ rest)
waits_first [] f e = let z : ◌≡◌ {A = ℕ} 0 1 = cc in absurd (omega arith)
waits_first (x ∷ fs) f e = (fs, let same : x ≡ f = cc in ap (λ y. y ∷ fs) same)

module _ (a : Adapter) (f : Frame) (rest : List Frame) (first : (view a).records ≡ f ∷ rest) where
  pub start_low : f.start ≤ 1152921504606846976
  start_low = ∥∥₁_elim a.reached le_prop (λ l. (subst (AllInRange (setup_of a)) first (fit (setup_of a) (entries_of a) l.0 (view a) l.1).records).0.not_later)

  pub slots_low : f.slots ≤ 4096
  slots_low = ∥∥₁_elim a.reached le_prop (λ l. (subst (AllInRange (setup_of a)) first (fit (setup_of a) (entries_of a) l.0 (view a) l.1).records).0.not_more)

  pub slots_some : 0 < f.slots
  slots_some =
      let copies : (setup_of a).copies ≤ f.slots =
      ∥∥₁_elim a.reached le_prop (λ l. (subst (AllInRange (setup_of a)) first (fit (setup_of a) (entries_of a) l.0 (view a) l.1).records).0.enough) in
      omega (arith, a.config.in_range.2)

moved_none : (m : ℕ) (t : Option Times) → None ≡ moved m (parent_of t []) → t ≡ None
moved_none m None e = refl
moved_none m (Some t) e = let z : ◌≡◌ {A = ℕ} 0 1 = cc in absurd (omega arith)

-- all parents still have an anchor
pub quiet_restarted : (m n : ℕ) (ts ts' : List (Option Times)) (memory : Memory Entry) → Restarted m ts ts' → Known ts n → length (lines_in memory) ≤ n → Quiet ts' memory
unfolding line_in
quiet_restarted m n ts ts' memory h known few =
    λ p silent.
    ⊎_elim
    (λ (low : p < n). absurd (known p low (moved_none m (get_or ts p None) (sym (ap (λ t. parent_of t []) silent) ∙ h.each p []))))
    (λ (high : n ≤ p). ap length (get_or_past (lines_in memory) p [] (omega arith)))
    (cases_lt p n)
