-- What a complete log says of the lines of an adapter whose parents all have an anchor.
use Rattle.std.proofs.Common.{◌≡◌, ℕ, zero, suc, ◌+◌, ◌*◌, ◌<◌, ◌≤◌, true, false, cond, leb, List, [], ◌∷◌, map, length, get_or, Some, None, Option, sym, refl, ap, ◌∙◌, subst, ⊎_elim, arith}
use mathlib.Core.HLevel.{×_prop}
use mathlib.Core.Logic.{∥∥₁_elim}
use native.Mathlib.Bridge.{le_prop}
use native.Mathlib.Nat.{ℕ_set}
use Rattle.std.proofs.lemmas.List.{get_or_past}
use Rattle.std.proofs.lemmas.Bool.{cases_lt}
use Rattle.memory.proofs.Shares.{line_bound, length_lines}
use Rattle.memory.specs.Memory.{lines_in, line_in, backlog_in, room_in, SameShares}
use Rattle.memory.specs.declared.Memory.{Memory}
use Rattle.rules.proofs.Invariants.{always_sound}
use Rattle.rules.proofs.Ordered.{Above, Rises}
use Rattle.rules.proofs.Placing.{LinesRise, lines_rise, started}
use Rattle.rules.specs.Entries.{Entry}
use Rattle.rules.proofs.Fits.{fits, doubt_begins}
use Rattle.rules.specs.Slots.{Frame}
use Rattle.rules.specs.Calls.{AllHeard, doubt_at}
use Rattle.rules.specs.Entries.{into, merge, merged}
use Rattle.rules.specs.State.{Hearing, Step, out, following, in_step}
use Rattle.adapter.specs.Parents.{parent_of}
use Rattle.adapter.specs.Placing.{AllWhole, begun}
use Rattle.adapter.specs.View.{view, setup_of, entries_of}
use Rattle.adapter.specs.declared.state.Adapter.{Adapter}
use Rattle.adapter.specs.declared.times.Times.{Times}
use Rattle.adapter.proofs.Fits.{LineWhole, fit, whole_merged}
use Rattle.adapter.proofs.Standing.{checked, places_suffice, known_all}
use Rattle.adapter.proofs.Turns.{whole_from_on}
use Rattle.adapter.proofs.Views.{parents_get_or}

above_prop : (n : ℕ) (l : List Entry) → IsProp (Above n l)
above_prop n [] = λ x y. refl
above_prop n (e ∷ l) = ×_prop le_prop (above_prop n l)

rises_prop : (l : List Entry) → IsProp (Rises l)
rises_prop [] = λ x y. refl
rises_prop (e ∷ l) = ×_prop (above_prop e.arrival l) (rises_prop l)

lines_rise_prop : (hs : List Hearing) → IsProp (LinesRise hs)
lines_rise_prop [] = λ x y. refl
lines_rise_prop (h ∷ hs) = ×_prop (rises_prop h.line) (lines_rise_prop hs)

whole_prop : (l : List Entry) → IsProp (AllWhole l)
whole_prop [] = λ x y. refl
whole_prop (e ∷ l) = ×_prop (×_prop (ℕ_set _ _) (ℕ_set _ _)) (whole_prop l)

pub rise : (a : Adapter) (hs : List Hearing) → AllHeard (view a) hs → LinesRise hs
rise a hs all =
    ∥∥₁_elim a.reached (lines_rise_prop hs) (λ l. lines_rise (setup_of a) (view a) hs (always_sound (setup_of a) (entries_of a) l.0 (view a) (checked a) l.1) all)

pub backlog_whole : (a : Adapter) → AllWhole (backlog_in a.memory)
backlog_whole a = ∥∥₁_elim a.reached (whole_prop (backlog_in a.memory)) (λ l. (fit (setup_of a) (entries_of a) l.0 (view a) l.1).backlog)

pub doubt_low : (a : Adapter) → doubt_at (setup_of a) (view a).step ≤ a.config.settings.backlog
doubt_low a = ∥∥₁_elim a.reached le_prop (λ l. doubt_begins (setup_of a) (view a).step (fits (setup_of a) (entries_of a) l.1).small_doubt)

known_line : (t : Option Times) (l : List Entry) → (t ≡ None → ⊥) → LineWhole (parent_of t l) → AllWhole l
known_line None l k h = absurd (k refl)
known_line (Some t) l k h = h

lines_whole : (a : Adapter) (hs : List Hearing) → AllHeard (view a) hs → (q : ℕ) → AllWhole (get_or (lines_in a.memory) q [])
lines_whole a hs all q =
    ⊎_elim
    (λ (low : q < length (lines_in a.memory)).
    ∥∥₁_elim a.reached (whole_prop (get_or (lines_in a.memory) q []))
    (λ l.
    known_line (get_or a.heard q None) (get_or (lines_in a.memory) q []) (known_all a hs all q low)
    (subst LineWhole (parents_get_or a.heard (lines_in a.memory) q low (places_suffice a)) ((fit (setup_of a) (entries_of a) l.0 (view a) l.1).lines q))))
    (λ (high : length (lines_in a.memory) ≤ q). subst AllWhole (sym (get_or_past (lines_in a.memory) q [] high)) tt)
    (cases_lt q (length (lines_in a.memory)))

whole_begun : (f : Frame) (s : Step) (l : List Entry) → AllWhole l → AllWhole (begun f s l)
whole_begun f out l h = whole_from_on f.start l h
whole_begun f (following d) l h = h
whole_begun f in_step l h = h

whole_map : (f : Frame) (s : Step) (ls : List (List Entry)) → ((q : ℕ) → AllWhole (get_or ls q [])) → (q : ℕ) → AllWhole (get_or (map (begun f s) ls) q [])
whole_map f s [] h q = tt
whole_map f s (l ∷ ls) h zero = whole_begun f s l (h 0)
whole_map f s (l ∷ ls) h (suc q) = whole_map f s ls (λ i. h (suc i)) q

pub begun_whole : (a : Adapter) (hs : List Hearing) (f : Frame) (m : Memory Entry) → AllHeard (view a) hs → lines_in m ≡ map (begun f (view a).step) (lines_in a.memory) → AllWhole (merged (lines_in m))
begun_whole a hs f m all is =
    subst (λ ls. AllWhole (merged ls)) (sym is)
    (whole_merged (map (begun f (view a).step) (lines_in a.memory)) (whole_map f (view a).step (lines_in a.memory) (lines_whole a hs all)))

length_into : (e : Entry) (l : List Entry) → length (into e l) ≡ suc (length l)
length_into e [] = refl
length_into e (d ∷ ds) =
    elim (leb e.arrival d.arrival) as (λ b. length (cond b (e ∷ d ∷ ds) (d ∷ into e ds)) ≡ suc (length (d ∷ ds))) [ true ↦ refl | false ↦ ap suc (length_into e ds) ]

length_merge : (l m : List Entry) → length (merge l m) ≡ length l + length m
length_merge [] m = omega arith
length_merge (e ∷ l) m = length_into e (merge l m) ∙ let h = length_merge l m in omega arith

few_merged : (ls : List (List Entry)) → ((q : ℕ) → length (get_or ls q []) ≤ 4096) → length (merged ls) ≤ 4096 * length ls
few_merged [] h = omega arith
few_merged (l ∷ ls) h = let rest = few_merged ls (λ q. h (suc q)) in omega (arith, length_merge l (merged ls), h 0)

-- few enough wait in the lines
pub few : (a : Adapter) (m : Memory Entry) → SameShares a.memory m → length (merged (lines_in m)) < 4294967296
unfolding line_in
few a m shares =
    let room : room_in m ≤ 4096 = omega (arith, shares.room, a.room) in
    let lines : length (lines_in m) ≤ 4 = omega (arith, length_lines m, shares.parents, a.parents, a.config.rates.ok.0, a.config.parents.0) in
    omega (arith, few_merged (lines_in m) (λ q. let low : length (get_or (lines_in m) q []) ≤ room_in m = line_bound m q in omega arith))

begun_is : (f : Frame) (s : Step) (l : List Entry) → begun f s l ≡ started f s l
begun_is f out l = refl
begun_is f (following d) l = refl
begun_is f in_step l = refl

pub begun_lines : (f : Frame) (s : Step) (hs : List Hearing) (ls : List (List Entry)) → map (λ (h : Hearing). h.line) hs ≡ ls → map (begun f s) ls ≡ map (λ h. started f s h.line) hs
begun_lines f s hs ls e = ap (map (begun f s)) (sym e) ∙ each hs
  where
    each : (hs : List Hearing) → map (begun f s) (map (λ (h : Hearing). h.line) hs) ≡ map (λ h. started f s h.line) hs
    each [] = refl
    each (h ∷ hs) = let x = begun_is f s h.line in let y = each hs in cc
