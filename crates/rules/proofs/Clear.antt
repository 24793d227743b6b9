-- Every complete log keeps it; and so frames are added only from a clear tally, and then always.
use Rattle.std.proofs.Common.{◌≡◌, ℕ, suc, ◌+◌, ◌<◌, ◌≤◌, List, [], ◌∷◌, map, length, get_or, Some, None, sym, refl, ap, ◌∙◌, subst, ⊎_elim, arith}
use Rattle.std.proofs.lemmas.List.{length-replicate, get_or-replicate}
use Rattle.config.specs.Setup.{Setup}
use Rattle.carrier.specs.Meaning.{Meaning, Carried}
use Rattle.rules.specs.Slots.{Frame, end_of, played, dropped}
use Rattle.rules.specs.State.{Checked, Hearing, latest, State, Step, out, following, in_step, parents_of, power_up, Roomy}
use Rattle.rules.specs.Calls.{Hears, Loses, Records, Frames, bad, untimely, unanchored, unwanted, unpatched, full, holds, loses, outside, eight, queues, starts, none, silent, skips, unheard, crowded, follows, adds, Called, Reach, ShortOf, frame_turns, NotInStep, FrameAnswer, added}
use Rattle.rules.specs.Log.{Event, hear, loss, recorded, framed, Log, Took, Leads, begins, next, log_turns, Placed, Effect, same, blanks, follows_on, adds_on, effect, run, run_by, placed_by, last_placed, Tally, blank, clear, tally, record_of, backlog_of}
use Rattle.rules.specs.Laws.{HeardUntil, Unheard, ComingUp, Next, no_record, not_heard, no_room, adds_it, OnlyFromClear}
use Rattle.rules.proofs.Kept.{quiet, Chain, Coming, newest_of, Ongoing, Going, Kept}
use Rattle.rules.proofs.Hearing.{no_way, keeps_hear}
use Rattle.rules.proofs.Records.{keeps_loss, keeps_record}
use Rattle.rules.proofs.Framing.{keeps_frame, some_same, chain_head, many, at_parent, heard_at, turns_are, still_clear}

keeps_event : (c : Setup) → Checked c → (m : ℕ) (log : Log) (s s' : State) → Kept c log s → (e : Event) → Took c m s e s' → Kept c (e ∷ log) s'
keeps_event c sound m log s s' k (hear p x t r) took = keeps_hear c sound m log s k p x t r s' took
keeps_event c sound m log s s' k (loss p r) took = keeps_loss c m log s k p r s' took
keeps_event c sound m log s s' k (recorded f r) took = keeps_record c m log s k f r s' took
keeps_event c sound m log s s' k (framed b r d) took = keeps_frame c m log s k b d r s' took

at_power_up : (c : Setup) → Kept c [] (power_up c)
at_power_up c = record {
  size = length-replicate (parents_of c) None;
  heard = λ p k. quiet (get_or-replicate (parents_of c) p None None k) refl refl;
  last = refl;
  chain = tt;
  going = (refl, refl, refl);
}

pub keeps : (c : Setup) → Checked c → (m : ℕ) {log : Log} {s : State} → Leads c m log s → Kept c log s
keeps c sound m begins = at_power_up c
keeps c sound m (next {log} {s} {s'} l e took) = keeps_event c sound m log s s' (keeps c sound m l) e took

-- with too little memory nothing ever happens
short_event : (c : Setup) (m : ℕ) (log : Log) (s s' : State) → (Roomy c m → ⊥) → tally c log ≡ blank → (e : Event) → Took c m s e s' → tally c (e ∷ log) ≡ blank
short_event c m log s s' little was (hear p x t r) (Hears.short e er es) = ap (λ y. tally c (hear p x t y ∷ log)) er ∙ was
short_event c m log s s' little was (hear p x t r) (Hears.unknown e h er es) = absurd (little e)
short_event c m log s s' little was (hear p x t r) (bad l g er es) = absurd (little l.roomy)
short_event c m log s s' little was (hear p x t r) (untimely g u er es) = absurd (little g.known.roomy)
short_event c m log s s' little was (hear p x t r) (unanchored g pn tn er es) = absurd (little g.known.roomy)
short_event c m log s s' little was (hear p x t r) (unwanted σ a why er es) = absurd (little a.packet.known.roomy)
short_event c m log s s' little was (hear p x t r) (unpatched σ a wa dl er es) = absurd (little a.packet.known.roomy)
short_event c m log s s' little was (hear p x t r) (full σ e a wants fl er es) = absurd (little a.packet.known.roomy)
short_event c m log s s' little was (hear p x t r) (holds σ e a wants fl er es) = absurd (little a.packet.known.roomy)
short_event c m log s s' little was (loss p r) (Loses.short e er es) = ap (λ y. tally c (loss p y ∷ log)) er ∙ was
short_event c m log s s' little was (loss p r) (Loses.unknown e h er es) = absurd (little e)
short_event c m log s s' little was (loss p r) (loses l er es) = absurd (little l.roomy)
short_event c m log s s' little was (recorded f r) (Records.short e er es) = ap (λ y. tally c (recorded f y ∷ log)) er ∙ was
short_event c m log s s' little was (recorded f r) (outside e h er es) = absurd (little e)
short_event c m log s s' little was (recorded f r) (eight e i fo n er es) = absurd (little e)
short_event c m log s s' little was (recorded f r) (queues e i fo n er es) = absurd (little e)
short_event c m log s s' little was (recorded f r) (starts e i nf er es) = absurd (little e)
short_event c m log s s' little was (framed b r d) (Frames.short e er es ek) = ap (λ y. tally c (framed b y d ∷ log)) er ∙ was
short_event c m log s s' little was (framed b r d) (none e n er es ek) = absurd (little e)
short_event c m log s s' little was (framed b r d) (silent e f rest first n er es ek) = absurd (little e)
short_event c m log s s' little was (framed b r d) (skips f rest hs called low er es ek) = absurd (little called.roomy)
short_event c m log s s' little was (framed b r d) (unheard f rest hs called low u er es ek) = absurd (little called.roomy)
short_event c m log s s' little was (framed b r d) (crowded f rest hs due is fr er es ek) = absurd (little due.called.roomy)
short_event c m log s s' little was (framed b r d) (follows f rest hs due nis er es ek) = absurd (little due.called.roomy)
short_event c m log s s' little was (framed b r d) (adds f rest hs due is fr er es ek) = absurd (little due.called.roomy)

short_blank : (c : Setup) (m : ℕ) {log : Log} {s : State} → (Roomy c m → ⊥) → Leads c m log s → tally c log ≡ blank
short_blank c m little begins = refl
short_blank c m little (next {log} {s} {s'} l e took) = short_event c m log s s' little (short_blank c m little l) e took

-- the newest frame of the run is the last one followed or added
pub last_is : (c : Setup) (log : Log) (g : ℕ) → newest_of (run c log) ≡ Some g → last_placed log ≡ Some g
last_is c [] g h = h
last_is c (e ∷ log) g h = by (effect e) (last_is c log g) h
  where
    by : (x : Effect) → (newest_of (run c log) ≡ Some g → last_placed log ≡ Some g) → newest_of (run_by c x log (run c log)) ≡ Some g → placed_by x (last_placed log) ≡ Some g
    by same ih h = ih h
    by blanks ih h = no_way (cc)
    by (follows_on f) ih h = h
    by (adds_on f) ih h = h

-- a clear tally: the adapter is in step, and frames go on
pub in_step_then : (c : Setup) (t : Tally) (l : List Placed) (s : State) (st : Step) → Going c t l s st → t ≡ clear → (st ≡ in_step) × (g : ℕ) × (e : ℕ) × Ongoing c l s g e
in_step_then c t l s out g e = no_way (let a = g.0 in cc)
in_step_then c t l s (following d) g e = no_way (let a = g.0 in cc)
in_step_then c t l s in_step g e = (refl, g.1, g.2, g.3)

latest_all : (e : ℕ) (hs : List Hearing) → ((p : ℕ) (h : Hearing) → p < length hs → get_or (map Some hs) p None ≡ Some h → h.from ≤ e) → latest hs ≤ e
latest_all e [] each = omega arith
latest_all e (h ∷ []) each = each 0 h (omega arith) refl
latest_all e (h ∷ g ∷ hs) each = let a = each 0 h (omega arith) refl in let b = latest_all e (g ∷ hs) (λ p x k w. each (suc p) x (omega arith) w) in omega arith

-- a parent that was not heard so far
short_at : (e : ℕ) (hs : List Hearing) → ShortOf e hs → (p : ℕ) × (h : Hearing) × (p < length hs) × (get_or (map Some hs) p None ≡ Some h) × (h.heard_to < e)
short_at e [] h = absurd h
short_at e (h ∷ hs) short =
    ⊎_elim
    (λ here. (0, h, omega arith, refl, here))
    (λ later. let r = short_at e hs later in (suc r.0, r.1, omega (arith, r.2), r.3, r.4))
    short

module _ (c : Setup) (sound : Checked c) (m : ℕ) (log : Log) (s s' : State) (k k' : Meaning) (r : FrameAnswer) (l : Leads c m log s) where
  kept : Kept c log s
  kept = keeps c sound m l

  going : tally c log ≡ clear → (s.step ≡ in_step) × (g : ℕ) × (e : ℕ) × Ongoing c (run c log) s g e
  going = in_step_then c (tally c log) (run c log) s s.step kept.going

  only : (f n : ℕ) → r ≡ added f n → Frames c m s k r s' k' → tally c log ≡ clear
  only f n e (Frames.short x er es ek) = no_way (cc)
  only f n e (none x y er es ek) = no_way (cc)
  only f n e (silent x g rest first y er es ek) = no_way (cc)
  only f n e (skips g rest hs called low er es ek) = no_way (cc)
  only f n e (unheard g rest hs called low u er es ek) = no_way (cc)
  only f n e (crowded g rest hs due is fr er es ek) = no_way (cc)
  only f n e (follows g rest hs due nis er es ek) = no_way (cc)
  only f n e (adds g rest hs due is fr er es ek) = still_clear c s (tally c log) (run c log) s.step is kept.going

  unless : (tally c log ≡ clear → ⊥) → Frames c m s k r s' k' → k' ≡ k
  unless dim (Frames.short x er es ek) = ek
  unless dim (none x y er es ek) = ek
  unless dim (silent x g rest first y er es ek) = ek
  unless dim (skips g rest hs called low er es ek) = ek
  unless dim (unheard g rest hs called low u er es ek) = ek
  unless dim (crowded g rest hs due is fr er es ek) = ek
  unless dim (follows g rest hs due nis er es ek) = ek
  unless dim (adds g rest hs due is fr er es ek) = absurd (dim (still_clear c s (tally c log) (run c log) s.step is kept.going))

  module _ (clears : tally c log ≡ clear) (f : Frame) (rest : List Frame) (hs : List Hearing) (called : Called c m s f rest hs) where
    head_is : (f.number ≡ (going clears).1 + 1) × (f.start ≡ (going clears).2)
    head_is = subst (Coming c s.last (going clears).1 (going clears).2) called.oldest (going clears).3.coming

    comes_up : ComingUp c log (going clears).1 f
    comes_up = record {
      last = last_is c log _ (going clears).3.newest;
      record_is = ap (λ n. record_of n log) (sym head_is.0) ∙ chain_head c (λ n. record_of n log) s.last f rest (subst (Chain c (λ n. record_of n log) s.last) called.oldest kept.chain);
    }

    until : Reach (end_of c f) hs → HeardUntil c log (end_of c f)
    until reach p j =
        let a = at_parent c log s kept m f rest hs called (λ x. x) p j in
        (record { anchor = a.h.anchor; count = a.h.count; heard_to = a.h.heard_to }, (heard_at c log s kept m f rest hs called (λ x. x) p j).tracks, a.reach (end_of c f) reach)

    not_until : ShortOf (end_of c f) hs → Unheard c log (end_of c f)
    not_until short =
        let one = short_at (end_of c f) hs short in
        let q : one.0 < parents_of c = omega (arith, one.2, many c log s kept m f rest hs called) in
        let a = at_parent c log s kept m f rest hs called (λ x. x) one.0 q in
        let same-one : a.h ≡ one.1 = some_same (sym a.was ∙ one.3) in
        record {
          parent = one.0;
          known = record { anchor = a.h.anchor; count = a.h.count; heard_to = a.h.heard_to };
          listed = q;
          tracks = (heard_at c log s kept m f rest hs called (λ x. x) one.0 q).tracks;
          before = omega (arith, ap (λ y. y.heard_to) same-one, one.4);
        }

    -- every from-time stands where the record starts
    in_time : latest hs ≤ f.start
    in_time =
        let o = going clears in
        let early = latest_all o.2 hs (λ p h q w.
        let here = o.3.froms p (omega (arith, many c log s kept m f rest hs called)) in
        let same-one : here.0 ≡ h = some_same (sym here.1 ∙ ap (λ y. get_or y p None) called.anchored ∙ w) in
        omega (arith, ap (λ y. y.from) same-one, here.2)) in
        omega (arith, head_is.1)

  always : tally c log ≡ clear → Frames c m s k r s' k' → Next c log k r k'
  always clears (Frames.short x er es ek) = no_way (let a = short_blank c m x l in cc)
  always clears (none x y er es ek) =
      let o = going clears in
      let end = subst (Coming c s.last o.1 o.2) y o.3.coming in
      no_record o.1 end.0 (last_is c log _ o.3.newest) (sym kept.last ∙ end.1) end.2 er ek
  always clears (silent x f rest first y er es ek) =
      let here = (going clears).3.froms y.parent (omega (arith, kept.size, y.listed)) in
      let none-there = y.silent in
      let some_there = here.1 in
      no_way (cc)
  always clears (skips f rest hs called low er es ek) = absurd (omega (arith, in_time clears f rest hs called))
  always clears (unheard f rest hs called low u er es ek) = not_heard _ f (comes_up clears f rest hs called) (not_until clears f rest hs called u) er ek
  always clears (crowded f rest hs due is fr er es ek) = no_room _ f (comes_up clears f rest hs due.called) (until clears f rest hs due.called due.heard) fr er ek
  always clears (follows f rest hs due nis er es ek) = absurd (subst NotInStep (going clears).0 nis)
  always clears (adds f rest hs due is fr er es carried) =
      let o = going clears in
      let told : frame_turns c s f hs ≡ log_turns c f log = turns_are c log s kept m f rest hs due.called due.not_early in
      let back : s.backlog ≡ backlog_of c log = o.3.waits in
      adds_it o.1 f (comes_up clears f rest hs due.called) (until clears f rest hs due.called due.heard) fr
      (er ∙ (λ i. added ((head_is clears f rest hs due.called).0 i) (dropped c.backlog (told i) (back i))))
      (subst (λ ps. Carried ps k k') (λ i. played c f.number (told i) (back i)) carried)

pub only_from_clear : OnlyFromClear
only_from_clear c m log s' k k' r sound (next {s = s} l e took) = record {
  only = λ f n e. only c sound m log s s' k k' r l f n e took;
  unless = λ dim. unless c sound m log s s' k k' r l dim took;
  always = λ clears. always c sound m log s s' k k' r l clears took;
}
