-- What waits fits into the memory: lines, records, and the doubt within the size of the backlog.
use Rattle.std.proofs.Common.{◌≡◌, ℕ, zero, suc, ◌+◌, ◌≤◌, min, Bool, true, false, ltb, ◌⊎◌, List, [], ◌∷◌, map, length, get_or, set, replicate, Some, None, Option, sym, refl, ap, subst, inl, inr, ⊎_elim, arith}
use Rattle.std.proofs.lemmas.List.{length_push}
use Rattle.std.proofs.lemmas.Bool.{cond_both}
use Rattle.config.specs.Setup.{Setup}
use Rattle.psi.specs.Packet.{Bytes}
use Rattle.carrier.specs.Meaning.{Meaning}
use Rattle.rules.specs.Entries.{Entry, from_on}
use Rattle.rules.specs.Slots.{Frame, Use, pat, payload, Turn, lowered, doubt, turn_doubt, reaches_zero, end_of}
use Rattle.rules.specs.State.{Hearing, latest, Parent, State, Step, out, following, in_step, parents_of, parent_at, line_of, line_room, lose, know}
use Rattle.rules.specs.Calls.{HearAnswer, Hears, bad, untimely, unanchored, unwanted, unpatched, full, holds, LossAnswer, Loses, loses, RecordAnswer, Records, outside, eight, queues, starts, FrameAnswer, Frames, none, silent, skips, unheard, crowded, follows, adds, AllHeard, most_records, records_from, let_go, doubt_at, step_after, frame_turns}
use Rattle.rules.specs.Log.{Event, hear, loss, recorded, framed, Log, Took, Leads, begins, next}
use Rattle.rules.specs.Invariants.{DoubtWithin}

pub record Fits (c : Setup) (m : ℕ) (s : State) : Type 0 where
  pub rooms : (p : ℕ) → length (line_of (parent_at s p)) ≤ line_room c m
  pub few : length s.records ≤ most_records
  pub small_doubt : DoubtWithin c.backlog s.step

-- a parent after a write to one of them: the one written, or what it was
set_either : (ps : List Parent) (q : ℕ) (P : Parent) (p : ℕ) → (get_or (set ps q P) p None ≡ P) ⊎ (get_or (set ps q P) p None ≡ get_or ps p None)
set_either [] q P p = inr refl
set_either (x ∷ ps) zero P zero = inl refl
set_either (x ∷ ps) zero P (suc p) = inr refl
set_either (x ∷ ps) (suc q) P zero = inr refl
set_either (x ∷ ps) (suc q) P (suc p) = set_either ps q P p

set_fits : (room : ℕ) (ps : List Parent) (q : ℕ) (P : Parent) → length (line_of P) ≤ room → ((p : ℕ) → length (line_of (get_or ps p None)) ≤ room) → (p : ℕ) → length (line_of (get_or (set ps q P) p None)) ≤ room
set_fits room ps q P new old p = ⊎_elim (λ e. subst (λ y. length (line_of y) ≤ room) (sym e) new) (λ e. subst (λ y. length (line_of y) ≤ room) (sym e) (old p)) (set_either ps q P p)

from_on_shorter : (m : ℕ) (l : List Entry) → length (from_on m l) ≤ length l
from_on_shorter m [] = omega arith
from_on_shorter m (e ∷ l) = cond_both (ltb e.arrival m) _ _ (λ y. length y ≤ length (e ∷ l)) (λ t. let shorter = from_on_shorter m l in omega arith) (λ t. omega arith)

records_shorter : (m : ℕ) (fs : List Frame) → length (records_from m fs) ≤ length fs
records_shorter m [] = omega arith
records_shorter m (f ∷ fs) = cond_both (ltb f.start m) _ _ (λ y. length y ≤ length (f ∷ fs)) (λ t. let shorter = records_shorter m fs in omega arith) (λ t. omega arith)

let_go_fits : (room e : ℕ) (hs : List Hearing) → ((p : ℕ) → length (line_of (get_or (map Some hs) p None)) ≤ room) → (p : ℕ) → length (line_of (get_or (map (λ h. Some (let_go e h)) hs) p None)) ≤ room
let_go_fits room e [] old p = omega arith
let_go_fits room e (h ∷ hs) old zero = omega (arith, old 0, from_on_shorter e h.line)
let_go_fits room e (h ∷ hs) old (suc p) = let_go_fits room e hs (λ q. old (suc q)) p

replicate_fits : (room n p : ℕ) → length (line_of (get_or (replicate n None) p None)) ≤ room
replicate_fits room zero p = omega arith
replicate_fits room (suc n) zero = omega arith
replicate_fits room (suc n) (suc p) = replicate_fits room n p

-- the doubt never rises above the size of the backlog
doubt_small : (q : ℕ) (ts : List Turn) (d : ℕ) → d ≤ q → doubt q ts d ≤ q
doubt_small q [] d h = h
doubt_small q (t ∷ ts) d h = doubt_small q ts (turn_doubt q t d) (by t.use_is)
  where
    by : (u : Use) → lowered u (min q (d + length t.admits)) ≤ q
    by (pat i) = omega arith
    by payload = omega arith

pub doubt_begins : (c : Setup) (st : Step) → DoubtWithin c.backlog st → doubt_at c st ≤ c.backlog
doubt_begins c out h = omega arith
doubt_begins c (following d) h = h
doubt_begins c in_step h = omega arith

step_small : (q : ℕ) (b : Bool) (d : ℕ) → d ≤ q → DoubtWithin q (step_after b d)
step_small q true d h = tt
step_small q false d h = h

module _ (c : Setup) (m : ℕ) (s s' : State) (was : Fits c m s) where
  same : s' ≡ s → Fits c m s'
  same es = subst (Fits c m) (sym es) was

  after_loss : (q : ℕ) → Fits c m (lose q s)
  after_loss q = record { rooms = set_fits (line_room c m) s.parents q None (omega arith) was.rooms; few = was.few; small_doubt = tt }

  after_know : (q : ℕ) (h : Hearing) → length h.line ≤ line_room c m → Fits c m (know q h s)
  after_know q h short = record { rooms = set_fits (line_room c m) s.parents q (Some h) short was.rooms; few = was.few; small_doubt = was.small_doubt }

  fits_hear : (q : ℕ) (x : Bytes) (t : Option ℕ) (r : HearAnswer) → Hears c m s q x t r s' → Fits c m s'
  fits_hear q x t r (Hears.short e er es) = same es
  fits_hear q x t r (Hears.unknown e h er es) = same es
  fits_hear q x t r (bad l g er es) = subst (Fits c m) (sym es) (after_loss q)
  fits_hear q x t r (untimely g u er es) = subst (Fits c m) (sym es) (after_loss q)
  fits_hear q x t r (unanchored g pn tn er es) = same es
  fits_hear q x t r (unwanted σ a why er es) = subst (Fits c m) (sym es) (after_know q _ (was.rooms q))
  fits_hear q x t r (unpatched σ a wa dl er es) = subst (Fits c m) (sym es) (after_know q _ (was.rooms q))
  fits_hear q x t r (full σ e a wants fl er es) = same es
  fits_hear q x t r (holds σ e a wants fl er es) = subst (Fits c m) (sym es) (after_know q _ (omega (arith, length_push (line_of (parent_at s q)) e)))

  fits_loss : (q : ℕ) (r : LossAnswer) → Loses c m s q r s' → Fits c m s'
  fits_loss q r (Loses.short e er es) = same es
  fits_loss q r (Loses.unknown e h er es) = same es
  fits_loss q r (loses l er es) = subst (Fits c m) (sym es) (after_loss q)

  fits_record : (f : Frame) (r : RecordAnswer) → Records c m s f r s' → Fits c m s'
  fits_record f r (Records.short e er es) = same es
  fits_record f r (outside e h er es) = same es
  fits_record f r (eight e i fo n er es) = same es
  fits_record f r (queues e i fo n er es) = subst (Fits c m) (sym es) (record { rooms = was.rooms; few = omega (arith, length_push s.records f); small_doubt = was.small_doubt })
  fits_record f r (starts e i nf er es) = subst (Fits c m) (sym es) (record { rooms = was.rooms; few = omega arith; small_doubt = tt })

  lines_after : (hs : List Hearing) → AllHeard s hs → (e : ℕ) (p : ℕ) → length (line_of (get_or (map (λ h. Some (let_go e h)) hs) p None)) ≤ line_room c m
  lines_after hs all e = let_go_fits (line_room c m) e hs (λ p. subst (λ y. length (line_of (get_or y p None)) ≤ line_room c m) all (was.rooms p))

  fits_frame : (k k' : Meaning) (r : FrameAnswer) → Frames c m s k r s' k' → Fits c m s'
  fits_frame k k' r (Frames.short e er es ek) = same es
  fits_frame k k' r (none e n er es ek) = same es
  fits_frame k k' r (silent e f rest first n er es ek) = same es
  fits_frame k k' r (skips f rest hs called low er es ek) = subst (Fits c m) (sym es) (record { rooms = lines_after hs called.anchored (latest hs); few = omega (arith, records_shorter (latest hs) s.records, was.few); small_doubt = tt })
  fits_frame k k' r (unheard f rest hs called low u er es ek) = same es
  fits_frame k k' r (crowded f rest hs due is fr er es ek) = same es
  fits_frame k k' r (follows f rest hs due nis er es ek) =
      let ts : List Turn = frame_turns c s f hs in
      let begins-at : ℕ = doubt_at c s.step in
      subst (Fits c m) (sym es) (record { rooms = lines_after hs due.called.anchored (end_of c f); few = omega (arith, ap length due.called.oldest, was.few); small_doubt = step_small c.backlog (reaches_zero c.backlog ts begins-at) (doubt c.backlog ts begins-at) (doubt_small c.backlog ts begins-at (doubt_begins c s.step was.small_doubt)) })
  fits_frame k k' r (adds f rest hs due is fr er es carried) = subst (Fits c m) (sym es) (record { rooms = lines_after hs due.called.anchored (end_of c f); few = omega (arith, ap length due.called.oldest, was.few); small_doubt = tt })

  fits_event : (e : Event) → Took c m s e s' → Fits c m s'
  fits_event (hear p x t r) took = fits_hear p x t r took
  fits_event (loss p r) took = fits_loss p r took
  fits_event (recorded f r) took = fits_record f r took
  fits_event (framed k r k') took = fits_frame k k' r took

pub fits : (c : Setup) (m : ℕ) {log : Log} {s : State} → Leads c m log s → Fits c m s
fits c m begins = record { rooms = replicate_fits (line_room c m) (parents_of c); few = omega arith; small_doubt = tt }
fits c m (next {log} {s} {s'} l e took) = fits_event c m s s' (fits c m l) e took
