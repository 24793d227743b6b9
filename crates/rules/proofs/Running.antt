-- Logs by computation: each call's answer and next state as its function gives them.
use Rattle.std.proofs.Common.{◌≡◌, ℕ, [], ◌∷◌, Option, sym, subst}
use Rattle.config.specs.Setup.{Setup}
use Rattle.psi.specs.Packet.{Bytes}
use Rattle.carrier.specs.Meaning.{Meaning}
use Rattle.rules.specs.Slots.{Frame}
use Rattle.rules.specs.State.{State, power_up}
use Rattle.rules.specs.Calls.{HearAnswer, Hears, LossAnswer, Loses, RecordAnswer, Records, FrameAnswer, Frames}
use Rattle.rules.specs.Log.{hear, loss, recorded, framed, Log, Leads, begins, next}
use Rattle.rules.proofs.Outcomes.{hear_does, hear_takes, loss_does, loss_takes, record_does, record_takes}
use Rattle.rules.proofs.FrameOutcome.{frame_does, Left, frame_takes}

-- a complete log and the state that it leads to
abbrev pub Site : Setup → ℕ → Log → Type 0
Site c m log = (s : State) × Leads c m log s

module _ {c : Setup} {m : ℕ} where
  abbrev pub on : Site c m []
  on = (power_up c, begins)

  abbrev pub hears : {log : Log} (l : Site c m log) (p : ℕ) (x : Bytes) (t : Option ℕ) (r : HearAnswer) → (hear_does c m l.0 p x t).0 ≡ r → Site c m (hear p x t r ∷ log)
  hears l p x t r e = ((hear_does c m l.0 p x t).1, next l.1 (hear p x t r) (subst (λ y. Hears c m l.0 p x t y (hear_does c m l.0 p x t).1) e (hear_takes c m l.0 p x t)))

  abbrev pub loses : {log : Log} (l : Site c m log) (p : ℕ) (r : LossAnswer) → (loss_does c m l.0 p).0 ≡ r → Site c m (loss p r ∷ log)
  loses l p r e = ((loss_does c m l.0 p).1, next l.1 (loss p r) (subst (λ y. Loses c m l.0 p y (loss_does c m l.0 p).1) e (loss_takes c m l.0 p)))

  abbrev pub records : {log : Log} (l : Site c m log) (f : Frame) (r : RecordAnswer) → (record_does c m l.0 f).0 ≡ r → Site c m (recorded f r ∷ log)
  records l f r e = ((record_does c m l.0 f).1, next l.1 (recorded f r) (subst (λ y. Records c m l.0 f y (record_does c m l.0 f).1) e (record_takes c m l.0 f)))

  abbrev pub frames : {log : Log} (l : Site c m log) (k : Meaning) (r : FrameAnswer) (k' : Meaning) → (frame_does c m l.0 k).0 ≡ r → Left r (frame_does c m l.0 k).2 k k' → Site c m (framed k r k' ∷ log)
  frames l k r k' e left = ((frame_does c m l.0 k).1, next l.1 (framed k r k') (subst (λ y. Frames c m l.0 k y (frame_does c m l.0 k).1 k') e (frame_takes c m l.0 k k' (subst (λ y. Left y (frame_does c m l.0 k).2 k k') (sym e) left))))
