-- The run of frames of a log over streams: consecutive, each an accepted record that admits what the streams bring, and the tally is their doubt.
use Rattle.std.proofs.Common.{◌≡◌, ℕ, ◌+◌, Bool, true, false, cond, ◌&&◌, ◌||◌, eqb, ◌⊎◌, List, [], ◌∷◌, Some, Option, sym, refl, ap, ◌∙◌, subst, inl, inr, ⊎_elim}
use Rattle.std.proofs.lemmas.Bool.{eqb-true, or_left, or_right, cases_Bool}
use Rattle.config.specs.Setup.{Setup}
use Rattle.psi.specs.Packet.{Bytes}
use Rattle.carrier.specs.Meaning.{Meaning}
use Rattle.rules.specs.Slots.{Frame, dropped, doubt, reaches_zero}
use Rattle.rules.specs.State.{Checked, Hearing, State, Step, out, following, in_step}
use Rattle.rules.specs.Calls.{HearAnswer, passed_over, dropped_it, held_it, refused_hear, LossAnswer, lost, refused_loss, RecordAnswer, anew, queued, refused_record, FrameAnswer, skipped, followed, added, refused_frame, Frames, none, silent, skips, unheard, crowded, follows, adds, Due, frame_turns}
use Rattle.rules.specs.Log.{Event, hear, loss, recorded, framed, Log, Took, Leads, begins, next, losing, gone, nothing, news_effect, accepted, record_of, turns_of, Placed, run, run_by, Effect, same, blanks, follows_on, adds_on, effect, Tally, blank, count, clear, moved, settled, tally, tally_by}
use Rattle.rules.specs.Laws.{Stream, StreamsRise, FromStreams, Accepted}
use Rattle.rules.proofs.Kept.{Coming, newest_of, Ongoing, Going, Kept}
use Rattle.rules.proofs.Hearing.{no_way}
use Rattle.rules.proofs.Framing.{chain_head, the_chain, run_is, still_clear}
use Rattle.rules.proofs.Clear.{keeps}
use Rattle.rules.proofs.Admitted.{stream_turns, admits_stream}

-- a record found under a number was accepted under it
pub record_found : (n : ℕ) (log : Log) (f : Frame) → record_of n log ≡ Some f → Accepted f log × (f.number ≡ n)
record_found n [] f e = no_way (cc)
record_found n (hear p x t r ∷ past) f e = record_found n past f e
record_found n (loss p r ∷ past) f e = record_found n past f e
record_found n (framed b r d ∷ past) f e = record_found n past f e
record_found n (recorded g r ∷ past) f e = by (accepted r) (eqb g.number n) refl refl e (record_found n past f)
  where
    by : (t u : Bool) → accepted r ≡ t → eqb g.number n ≡ u → cond (t && u) (Some g) (record_of n past) ≡ Some f → (record_of n past ≡ Some f → Accepted f past × (f.number ≡ n)) → (((accepted r ≡ true) × (f ≡ g)) ⊎ Accepted f past) × (f.number ≡ n)
    by true true et eu e ih = let is : g ≡ f = cc in (inl (et, sym is), ap (λ y. y.number) (sym is) ∙ eqb-true _ _ eu)
    by true false et eu e ih = (inr (ih e).0, (ih e).1)
    by false true et eu e ih = (inr (ih e).0, (ih e).1)
    by false false et eu e ih = (inr (ih e).0, (ih e).1)

pub accepted_more : (f : Frame) (e : Event) (log : Log) → Accepted f log → Accepted f (e ∷ log)
accepted_more f (hear p x t r) log h = h
accepted_more f (loss p r) log h = h
accepted_more f (recorded g r) log h = inr h
accepted_more f (framed b r d) log h = h

-- the run of frames: consecutive, each an accepted record that admits what the streams bring
abbrev pub ComesAfter : ℕ → List Placed → Type 0
ComesAfter n [] = Unit {0}
ComesAfter n (q ∷ l) = n ≡ q.number + 1

abbrev pub ByStreams : Setup → List Stream → Log → Placed → Type 0
ByStreams c ss log p = (f : Frame) × Accepted f log × (f.number ≡ p.number) × (p.played_so ≡ stream_turns c ss f)

abbrev pub RunOk : Setup → List Stream → Log → List Placed → Type 0
RunOk c ss log [] = Unit {0}
RunOk c ss log (p ∷ l) = ByStreams c ss log p × ComesAfter p.number l × RunOk c ss log l

run_more : (c : Setup) (ss : List Stream) (e : Event) (log : Log) (l : List Placed) → RunOk c ss log l → RunOk c ss (e ∷ log) l
run_more c ss e log [] h = tt
run_more c ss e log (p ∷ l) h = ((h.0.0, accepted_more h.0.0 e log h.0.1, h.0.2, h.0.3), h.1, run_more c ss e log l h.2)

-- how the doubt went over the run
abbrev pub run_doubt : ℕ → List Placed → ℕ
run_doubt q [] = q
run_doubt q (p ∷ l) = doubt q p.played_so (run_doubt q l)

abbrev pub run_zero : ℕ → List Placed → Bool
run_zero q [] = false
run_zero q (p ∷ l) = run_zero q l || reaches_zero q p.played_so (run_doubt q l)

abbrev pub Told : ℕ → Tally → List Placed → Type 0
Told q blank l = l ≡ []
Told q (count d) l = run_doubt q l ≡ d
Told q clear l = run_zero q l ≡ true

told_settled : (q : ℕ) (p : Placed) (l : List Placed) (d : ℕ) → run_doubt q l ≡ d → Told q (settled q p.played_so d) (p ∷ l)
told_settled q p l d e = by (reaches_zero q p.played_so d) refl
  where
    by : (b : Bool) → reaches_zero q p.played_so d ≡ b → Told q (cond b clear (count (doubt q p.played_so d))) (p ∷ l)
    by true h = or_right (run_zero q l) _ (ap (reaches_zero q p.played_so) e ∙ h)
    by false h = ap (doubt q p.played_so) e

told_moved : (q : ℕ) (p : Placed) (l : List Placed) (t : Tally) → Told q t l → Told q (moved q p.played_so t) (p ∷ l)
told_moved q p l blank e = told_settled q p l q (ap (run_doubt q) e)
told_moved q p l (count d) e = told_settled q p l d e
told_moved q p l clear e = or_left _ _ e

-- both facts, for every complete log
abbrev pub RunKept : Setup → List Stream → Log → Type 0
RunKept c ss log = RunOk c ss log (run c log) × Told c.backlog (tally c log) (run c log)

kept_same : (c : Setup) (ss : List Stream) (e : Event) (log : Log) → effect e ≡ same → RunKept c ss log → RunKept c ss (e ∷ log)
kept_same c ss e log is h = by (effect e) is
  where
    by : (u : Effect) → u ≡ same → RunOk c ss (e ∷ log) (run_by c u log (run c log)) × Told c.backlog (tally_by c u log (tally c log)) (run_by c u log (run c log))
    by same i = (run_more c ss e log (run c log) h.0, h.1)
    by blanks i = (tt, refl)
    by (follows_on f) i = no_way (cc)
    by (adds_on f) i = no_way (cc)

kept_blank : (c : Setup) (ss : List Stream) (e : Event) (log : Log) → effect e ≡ blanks → RunKept c ss (e ∷ log)
kept_blank c ss e log is = by (effect e) is
  where
    by : (u : Effect) → u ≡ blanks → RunOk c ss (e ∷ log) (run_by c u log (run c log)) × Told c.backlog (tally_by c u log (tally c log)) (run_by c u log (run c log))
    by same i = no_way (cc)
    by blanks i = (tt, refl)
    by (follows_on f) i = no_way (cc)
    by (adds_on f) i = no_way (cc)

kept_hear : (c : Setup) (ss : List Stream) (log : Log) (p : ℕ) (x : Bytes) (t : Option ℕ) (r : HearAnswer) → RunKept c ss log → RunKept c ss (hear p x t r ∷ log)
kept_hear c ss log p x t passed_over h = kept_same c ss (hear p x t passed_over) log refl h
kept_hear c ss log p x t dropped_it h = kept_same c ss (hear p x t dropped_it) log refl h
kept_hear c ss log p x t held_it h = kept_same c ss (hear p x t held_it) log refl h
kept_hear c ss log p x t (refused_hear n) h = ⊎_elim (λ e. kept_blank c ss (hear p x t (refused_hear n)) log (ap (λ y. news_effect (cond y gone nothing)) e)) (λ e. kept_same c ss (hear p x t (refused_hear n)) log (ap (λ y. news_effect (cond y gone nothing)) e) h) (cases_Bool (losing n))

kept_loss : (c : Setup) (ss : List Stream) (log : Log) (p : ℕ) (r : LossAnswer) → RunKept c ss log → RunKept c ss (loss p r ∷ log)
kept_loss c ss log p lost h = kept_blank c ss (loss p lost) log refl
kept_loss c ss log p (refused_loss n) h = kept_same c ss (loss p (refused_loss n)) log refl h

kept_record : (c : Setup) (ss : List Stream) (log : Log) (f : Frame) (r : RecordAnswer) → RunKept c ss log → RunKept c ss (recorded f r ∷ log)
kept_record c ss log f anew h = kept_blank c ss (recorded f anew) log refl
kept_record c ss log f queued h = kept_same c ss (recorded f queued) log refl h
kept_record c ss log f (refused_record n) h = kept_same c ss (recorded f (refused_record n)) log refl h

module _ (c : Setup) (sound : Checked c) (m : ℕ) (ss : List Stream) (rising : StreamsRise c ss) (log : Log) (s : State) (leads : Leads c m log s) (from : FromStreams c ss log) (was : RunKept c ss log) where
  kept : Kept c log s
  kept = keeps c sound m leads

  -- the next frame comes right after the run
  comes : (f : Frame) (rest : List Frame) → s.records ≡ f ∷ rest → (t : Tally) (l : List Placed) (st : Step) → Going c t l s st → ComesAfter f.number l
  comes f rest first t l = by
    where
      after_last : (g : ℕ) (l : List Placed) → newest_of l ≡ Some g → f.number ≡ g + 1 → ComesAfter f.number l
      after_last g [] e h = no_way (cc)
      after_last g (p ∷ l) e h = let is : p.number ≡ g = cc in h ∙ ap (λ y. y + 1) (sym is)

      ongoing : (g e : ℕ) → Ongoing c l s g e → ComesAfter f.number l
      ongoing g e o = after_last g l o.newest (subst (Coming c s.last g e) first o.coming).0

      by : (st : Step) → Going c t l s st → ComesAfter f.number l
      by out g = subst (ComesAfter f.number) (sym g.1) tt
      by (following d) g = ongoing g.1 g.2 g.3
      by in_step g = ongoing g.1 g.2 g.3

  abbrev last_of : Frame → Placed
  last_of f = record { number = f.number; played_so = turns_of c (record_of f.number log) log }

  abbrev one_more : Frame → List Placed
  one_more f = last_of f ∷ run c log

  placed_ok : (f : Frame) (rest : List Frame) (hs : List Hearing) → Due c m s f rest hs → (e : Event) → RunOk c ss (e ∷ log) (one_more f)
  placed_ok f rest hs due e =
      let got = record_found f.number log f (chain_head c (λ n. record_of n log) s.last f rest (the_chain c log s kept m f rest hs due.called)) in
      ((f, accepted_more f e log got.0, refl, run_is c log s kept m f rest hs due.called ∙ admits_stream c sound m ss rising log s leads from f rest hs due), comes f rest due.called.oldest (tally c log) (run c log) s.step kept.going, run_more c ss e log (run c log) was.0)

  module _ (k k' : Meaning) where
    answered : {r r₀ : FrameAnswer} → r ≡ r₀ → RunKept c ss (framed k r₀ k' ∷ log) → RunKept c ss (framed k r k' ∷ log)
    answered er h = subst (λ y. RunKept c ss (framed k y k' ∷ log)) (sym er) h

    refused : (n : ℕ) → RunKept c ss (framed k (refused_frame n) k' ∷ log)
    refused n = kept_same c ss (framed k (refused_frame n) k') log refl was

    followed_so : (f : Frame) (rest : List Frame) (hs : List Hearing) → Due c m s f rest hs → (n : ℕ) → RunKept c ss (framed k (followed f.number n) k' ∷ log)
    followed_so f rest hs due n = (placed_ok f rest hs due (framed k (followed f.number n) k'), told_moved c.backlog (last_of f) (run c log) (tally c log) was.1)

    added_so : (f : Frame) (rest : List Frame) (hs : List Hearing) → Due c m s f rest hs → s.step ≡ in_step → (n : ℕ) → RunKept c ss (framed k (added f.number n) k' ∷ log)
    added_so f rest hs due is n =
        let clears : tally c log ≡ clear = still_clear c s (tally c log) (run c log) s.step is kept.going in
        let zeroed : run_zero c.backlog (run c log) ≡ true = subst (λ t. Told c.backlog t (run c log)) clears was.1 in
        (placed_ok f rest hs due (framed k (added f.number n) k'), subst (λ t. Told c.backlog t (one_more f)) (sym clears) (or_left _ _ zeroed))

    kept_frame : (r : FrameAnswer) (s' : State) → Frames c m s k r s' k' → RunKept c ss (framed k r k' ∷ log)
    kept_frame r s' (Frames.short x er es ek) = answered er (refused 5)
    kept_frame r s' (none x y er es ek) = answered er (refused 12)
    kept_frame r s' (silent x f rest first y er es ek) = answered er (refused 13)
    kept_frame r s' (skips f rest hs called low er es ek) = answered er (kept_blank c ss (framed k (skipped f.number) k') log refl)
    kept_frame r s' (unheard f rest hs called low u er es ek) = answered er (refused 13)
    kept_frame r s' (crowded f rest hs due is fr er es ek) = answered er (refused 14)
    kept_frame r s' (follows f rest hs due nis er es ek) = answered er (followed_so f rest hs due (dropped c.backlog (frame_turns c s f hs) s.backlog))
    kept_frame r s' (adds f rest hs due is fr er es carried) = answered er (added_so f rest hs due is (dropped c.backlog (frame_turns c s f hs) s.backlog))

  kept_event : (s' : State) (e : Event) → Took c m s e s' → RunKept c ss (e ∷ log)
  kept_event s' (hear p x t r) took = kept_hear c ss log p x t r was
  kept_event s' (loss p r) took = kept_loss c ss log p r was
  kept_event s' (recorded f r) took = kept_record c ss log f r was
  kept_event s' (framed k r k') took = kept_frame k k' r s' took

pub run_kept : (c : Setup) → Checked c → (m : ℕ) (ss : List Stream) → StreamsRise c ss → {log : Log} {s : State} → Leads c m log s → FromStreams c ss log → RunKept c ss log
run_kept c sound m ss rising begins from = (tt, refl)
run_kept c sound m ss rising (next {log} {s} {s'} l e took) from = kept_event c sound m ss rising log s l from.0 (run_kept c sound m ss rising l from.0) s' e took
