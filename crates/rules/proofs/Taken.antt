-- Every complete log: what is held comes from the packets taken.
use Rattle.std.proofs.Common.{◌≡◌, ℕ, ◌<◌, ◌≤◌, List, ◌∷◌, map, get_or, Some, None, sym, refl, ap, ◌∙◌, subst, arith}
use Rattle.std.proofs.lemmas.List.{get_or-replicate}
use Rattle.config.specs.Setup.{Setup}
use Rattle.carrier.specs.Meaning.{Meaning}
use Rattle.rules.specs.Slots.{Frame, end_of}
use Rattle.rules.specs.State.{Checked, Hearing, latest, State, parents_of, parent_at}
use Rattle.rules.specs.Calls.{Called, let_go, Loses, loses, LossAnswer, lost, refused_loss, Records, outside, eight, queues, starts, RecordAnswer, Frames, none, silent, skips, crowded, follows, adds, FrameAnswer}
use Rattle.rules.specs.Log.{Event, hear, loss, recorded, framed, Log, nothing, gone, Took, Leads, begins, next, held}
use Rattle.rules.specs.Laws.{taken}
use Rattle.rules.proofs.Kept.{Kept}
use Rattle.rules.proofs.Hearing.{no_way, of_loss}
use Rattle.rules.proofs.Framing.{At, at_parent, some_same}
use Rattle.rules.proofs.Clear.{keeps}
use Rattle.rules.proofs.Segments.{TakenOk, heard, TakenAll, new_at, none_new, taken_hear}

module _ (c : Setup) (m : ℕ) (log : Log) (s : State) (kept : Kept c log s) (was : TakenAll c log s) where
  moved_loss : (q : ℕ) {r r₀ : LossAnswer} {s' s₀ : State} → r ≡ r₀ → s' ≡ s₀ → TakenAll c (loss q r₀ ∷ log) s₀ → TakenAll c (loss q r ∷ log) s'
  moved_loss q {r} {r₀} {s'} {s₀} er es k = subst (λ y. TakenAll c (loss q y ∷ log) s') (sym er) (subst (λ y. TakenAll c (loss q r₀ ∷ log) y) (sym es) k)

  taken_loss : (q : ℕ) (r : LossAnswer) (s' : State) → Loses c m s q r s' → TakenAll c (loss q r ∷ log) s'
  taken_loss q r s' (Loses.short e er es) = moved_loss q er es (none_new c log s kept was q _ nothing (of_loss q (refused_loss 5)) (was q))
  taken_loss q r s' (Loses.unknown e h er es) = moved_loss q er es (none_new c log s kept was q _ nothing (of_loss q (refused_loss 6)) (was q))
  taken_loss q r s' (loses l er es) = moved_loss q er es (new_at c log s kept was q None _ gone (of_loss q lost) l.listed (TakenOk.unheard refl))

  taken_record : (f : Frame) (r : RecordAnswer) (s' : State) → Records c m s f r s' → TakenAll c (recorded f r ∷ log) s'
  taken_record f r s' (Records.short e er es) = subst (λ y. TakenAll c (recorded f r ∷ log) y) (sym es) was
  taken_record f r s' (outside e h er es) = subst (λ y. TakenAll c (recorded f r ∷ log) y) (sym es) was
  taken_record f r s' (eight e i fo n er es) = subst (λ y. TakenAll c (recorded f r ∷ log) y) (sym es) was
  taken_record f r s' (queues e i fo n er es) = subst (λ y. TakenAll c (recorded f r ∷ log) y) (sym es) was
  taken_record f r s' (starts e i nf er es) = subst (λ y. TakenAll c (recorded f r ∷ log) y) (sym es) was

  -- the from-times rise to e
  let_go_taken : (f : Frame) (rest : List Frame) (hs : List Hearing) → Called c m s f rest hs → (e : ℕ) → latest hs ≤ e → (p : ℕ) → p < parents_of c → TakenOk c p (taken p log) (held c p log) (get_or (map (λ h. Some (let_go e h)) hs) p None)
  let_go_taken f rest hs called e up p k = by (was p k)
    where
      a : At (let_go e) hs p
      a = at_parent c log s kept m f rest hs called (let_go e) p k

      here : parent_at s p ≡ Some a.h
      here = ap (λ y. get_or y p None) called.anchored ∙ a.was

      by : TakenOk c p (taken p log) (held c p log) (parent_at s p) → TakenOk c p (taken p log) (held c p log) (get_or (map (λ h. Some (let_go e h)) hs) p None)
      by (TakenOk.unheard pn) = no_way (let h = here in cc)
      by (heard h p₀ g) =
          let same : h ≡ a.h = some_same (sym p₀ ∙ here) in
          let low : h.from ≤ e = omega (arith, ap (λ y. y.from) same, a.early) in
          heard (let_go e h) (a.is ∙ ap (λ y. Some (let_go e y)) (sym same)) (record { us = g.us; x = g.x; z = g.z; vs = g.vs; split = g.split; anchors = g.anchors; ends = g.ends; low = omega (arith, g.low); offers = λ b i h'. g.offers b i (omega arith) })

  taken_frame : (k k' : Meaning) (r : FrameAnswer) (s' : State) → Frames c m s k r s' k' → TakenAll c (framed k r k' ∷ log) s'
  taken_frame k k' r s' (Frames.short e er es ek) = subst (λ y. TakenAll c (framed k r k' ∷ log) y) (sym es) was
  taken_frame k k' r s' (none e n er es ek) = subst (λ y. TakenAll c (framed k r k' ∷ log) y) (sym es) was
  taken_frame k k' r s' (silent e f rest first n er es ek) = subst (λ y. TakenAll c (framed k r k' ∷ log) y) (sym es) was
  taken_frame k k' r s' (skips f rest hs called low er es ek) = subst (λ y. TakenAll c (framed k r k' ∷ log) y) (sym es) (let_go_taken f rest hs called (latest hs) (omega arith))
  taken_frame k k' r s' (Frames.unheard f rest hs called low u er es ek) = subst (λ y. TakenAll c (framed k r k' ∷ log) y) (sym es) was
  taken_frame k k' r s' (crowded f rest hs due is fr er es ek) = subst (λ y. TakenAll c (framed k r k' ∷ log) y) (sym es) was
  taken_frame k k' r s' (follows f rest hs due nis er es ek) = subst (λ y. TakenAll c (framed k r k' ∷ log) y) (sym es) (let_go_taken f rest hs due.called (end_of c f) (omega (arith, due.not_early)))
  taken_frame k k' r s' (adds f rest hs due is fr er es ek) = subst (λ y. TakenAll c (framed k r k' ∷ log) y) (sym es) (let_go_taken f rest hs due.called (end_of c f) (omega (arith, due.not_early)))

taken_event : (c : Setup) → Checked c → (m : ℕ) (log : Log) (s s' : State) → Kept c log s → TakenAll c log s → (e : Event) → Took c m s e s' → TakenAll c (e ∷ log) s'
taken_event c sound m log s s' k w (hear p x t r) took = taken_hear c log s k w sound m p x t r s' took
taken_event c sound m log s s' k w (loss p r) took = taken_loss c m log s k w p r s' took
taken_event c sound m log s s' k w (recorded f r) took = taken_record c m log s k w f r s' took
taken_event c sound m log s s' k w (framed b r d) took = taken_frame c m log s k w b d r s' took

pub takes : (c : Setup) → Checked c → (m : ℕ) {log : Log} {s : State} → Leads c m log s → TakenAll c log s
takes c sound m begins = λ p k. TakenOk.unheard (get_or-replicate (parents_of c) p None None k)
takes c sound m (next {log} {s} {s'} l e took) = taken_event c sound m log s s' (keeps c sound m l) (takes c sound m l) e took
