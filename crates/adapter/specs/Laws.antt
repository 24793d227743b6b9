-- The two laws, of a frame call that was just made: for every complete log that led to the state before it.
use Rattle.std.specs.Prelude.{◌≡◌, ℕ, List, ◌∷◌}
use Rattle.config.specs.Setup.{Setup}
use Rattle.psi.specs.Packet.{Bytes}
use Rattle.rules.specs.Calls.{FrameAnswer}
use Rattle.rules.specs.Laws.{FromClear, Stream, Alike, Shows}
use Rattle.rules.specs.Log.{Log, Leads, framed}
use Rattle.carrier.specs.Meaning.{Meaning}
use Rattle.rules.specs.State.{State}

-- A frame is added only from a clear tally, and then always.
abbrev pub ClearAfter : Setup → ℕ → State → Meaning → FrameAnswer → Meaning → Type 0
ClearAfter c entries s k r k' = (log : Log) → Leads c entries log s → FromClear c log k r k'

-- What this site and any second one add under one number is equal, where both heard the same streams and were given the same records.
abbrev pub EqualAfter : Setup → ℕ → State → Meaning → FrameAnswer → Meaning → Type 0
EqualAfter c entries s k r k' =
    (log second : Log) (entries₂ : ℕ) (s₂ : State) (streams : List Stream) →
    Leads c entries log s → Leads c entries₂ second s₂ → Alike c streams (framed k r k' ∷ log) second →
    (f : ℕ) (ps qs : List Bytes) → Shows (framed k r k' ∷ log) f ps → Shows second f qs → ps ≡ qs
