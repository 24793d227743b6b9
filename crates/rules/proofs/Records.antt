-- loss and record keep it
use Rattle.std.proofs.Common.{◌≡◌, ℕ, ◌+◌, ◌<◌, ◌≤◌, cond, eqb, List, [], ◌∷◌, ◌++◌, Some, None, Option, sym, refl, ap, ◌∙◌, subst, arith}
use Rattle.std.proofs.lemmas.Bool.{eq-eqb, ne_eqb, cond-true, cond-false}
use Rattle.std.proofs.lemmas.List.{length-set}
use Rattle.config.specs.Setup.{Setup}
use Rattle.rules.specs.Slots.{Frame}
use Rattle.rules.specs.State.{State, Step, out, following, in_step}
use Rattle.rules.specs.Calls.{Loses, loses, LossAnswer, lost, refused_loss, Records, RecordAnswer, refused_record, outside, eight, queues, starts, Follows}
use Rattle.rules.specs.Log.{loss, recorded, Log, nothing, gone, Placed, run, Tally, tally, record_of}
use Rattle.rules.proofs.Kept.{quiet, Chain, Coming, Going, Kept}
use Rattle.rules.proofs.Hearing.{of_loss, others, unchanged}

module _ (c : Setup) (m : ℕ) (log : Log) (s : State) (kept : Kept c log s) (q : ℕ) where
  loss_refused : (n : ℕ) → Kept c (loss q (refused_loss n) ∷ log) s
  loss_refused n = record { size = kept.size; heard = unchanged c log s kept q _ nothing (of_loss q (refused_loss n)) (kept.heard q); last = kept.last; chain = kept.chain; going = kept.going }

  moved_loss : {r r₀ : LossAnswer} {s' s₀ : State} → r ≡ r₀ → s' ≡ s₀ → Kept c (loss q r₀ ∷ log) s₀ → Kept c (loss q r ∷ log) s'
  moved_loss {r} {r₀} {s'} {s₀} er es k = subst (λ y. Kept c (loss q y ∷ log) s') (sym er) (subst (λ y. Kept c (loss q r₀ ∷ log) y) (sym es) k)

  pub keeps_loss : (r : LossAnswer) (s' : State) → Loses c m s q r s' → Kept c (loss q r ∷ log) s'
  keeps_loss r s' (Loses.short e er es) = moved_loss er es (loss_refused 5)
  keeps_loss r s' (Loses.unknown e h er es) = moved_loss er es (loss_refused 6)
  keeps_loss r s' (loses l er es) = moved_loss er es (record { size = length-set s.parents q None ∙ kept.size; heard = others c log s kept q None _ gone (of_loss q lost) l.listed (quiet refl refl refl); last = kept.last; chain = kept.chain; going = (refl, refl, refl) })

-- every waiting record has a number up to the last accepted one's
pub chain_top : (c : Setup) (look : ℕ → Option Frame) (l : Option Frame) (r : Frame) (rs : List Frame) → Chain c look l (r ∷ rs) → (x : Frame) × (l ≡ Some x) × (r.number ≤ x.number)
chain_top c look l r [] h = (r, h.1, omega arith)
chain_top c look l r (q ∷ rs) h = let up = chain_top c look l q rs h.3 in (up.0, up.1, omega (arith, up.2, h.1))

-- the new record under its number
abbrev newest : Frame → (ℕ → Option Frame) → ℕ → Option Frame
newest f look n = cond (eqb f.number n) (Some f) (look n)

chain_one : (c : Setup) (look : ℕ → Option Frame) (f : Frame) → Chain c (newest f look) (Some f) (f ∷ [])
chain_one c look f = (cond-true _ _ _ (eq-eqb f.number f.number refl), refl)

older : (look : ℕ → Option Frame) (f r : Frame) → r.number < f.number → look r.number ≡ Some r → newest f look r.number ≡ Some r
older look f r h e = cond-false _ _ _ (ne_eqb f.number r.number (λ x. absurd (omega arith))) ∙ e

chain_push : (c : Setup) (look : ℕ → Option Frame) (l : Option Frame) (f : Frame) (rs : List Frame) → Follows c l f → Chain c look l rs → Chain c (newest f look) (Some f) (rs ++ f ∷ [])
chain_push c look l f [] fo h = chain_one c look f
chain_push c look l f (r ∷ []) fo h =
    let up = subst (λ y. Follows c y f) h.1 fo in
    (older look f r (omega (arith, up.0)) h.0, up.0, up.1, chain_one c look f)
chain_push c look l f (r ∷ q ∷ rs) fo h =
    let top = chain_top c look l r (q ∷ rs) h in
    let up = subst (λ y. Follows c y f) top.1 fo in
    (older look f r (omega (arith, up.0, top.2)) h.0, h.1, h.2, chain_push c look l f (q ∷ rs) fo h.3)

coming_push : (c : Setup) (l : Option Frame) (g e : ℕ) (f : Frame) (rs : List Frame) → Follows c l f → Coming c l g e rs → Coming c (Some f) g e (rs ++ f ∷ [])
coming_push c l g e f [] fo h =
    let up = subst (λ y. Follows c y f) h.1 fo in
    (up.0 ∙ ap (λ y. y + 1) h.2, up.1 ∙ h.3)
coming_push c l g e f (r ∷ rs) fo h = h

module _ (c : Setup) (m : ℕ) (log : Log) (s : State) (kept : Kept c log s) where
  abbrev with_record : Frame → State
  with_record f = record { parents = s.parents; records = s.records ++ f ∷ []; last = Some f; backlog = s.backlog; step = s.step }

  going_record : (f : Frame) (t : Tally) (l : List Placed) → Follows c s.last f → (st : Step) → Going c t l s st → Going c t l (with_record f) st
  going_record f t l fo out g = g
  going_record f t l fo (following d) g = (g.0, g.1, g.2, record { newest = g.3.newest; waits = g.3.waits; froms = g.3.froms; coming = coming_push c s.last g.1 g.2 f s.records fo g.3.coming })
  going_record f t l fo in_step g = (g.0, g.1, g.2, record { newest = g.3.newest; waits = g.3.waits; froms = g.3.froms; coming = coming_push c s.last g.1 g.2 f s.records fo g.3.coming })

  moved_record : (f : Frame) {r r₀ : RecordAnswer} {s' s₀ : State} → r ≡ r₀ → s' ≡ s₀ → Kept c (recorded f r₀ ∷ log) s₀ → Kept c (recorded f r ∷ log) s'
  moved_record f {r} {r₀} {s'} {s₀} er es k = subst (λ y. Kept c (recorded f y ∷ log) s') (sym er) (subst (λ y. Kept c (recorded f r₀ ∷ log) y) (sym es) k)

  as_before : (f : Frame) (n : ℕ) → Kept c (recorded f (refused_record n) ∷ log) s
  as_before f n = record { size = kept.size; heard = kept.heard; last = kept.last; chain = kept.chain; going = kept.going }

  pub keeps_record : (f : Frame) (r : RecordAnswer) (s' : State) → Records c m s f r s' → Kept c (recorded f r ∷ log) s'
  keeps_record f r s' (Records.short e er es) = moved_record f er es (as_before f 5)
  keeps_record f r s' (outside e h er es) = moved_record f er es (as_before f 10)
  keeps_record f r s' (eight e i fo n er es) = moved_record f er es (as_before f 11)
  keeps_record f r s' (queues e i fo n er es) = moved_record f er es (record { size = kept.size; heard = kept.heard; last = refl; chain = chain_push c (λ n. record_of n log) s.last f s.records fo kept.chain; going = going_record f (tally c log) (run c log) fo s.step kept.going })
  keeps_record f r s' (starts e i nf er es) = moved_record f er es (record { size = kept.size; heard = kept.heard; last = refl; chain = chain_one c (λ n. record_of n log) f; going = (refl, refl, refl) })
