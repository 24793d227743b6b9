-- The calls are determined: from one state, one call with the same arguments has an answer and a next state, and no other.
-- Only how many free places a carrier has left is its own freedom.
use Rattle.std.specs.Prelude.{◌≡◌, ℕ, Option}
use Rattle.config.specs.Setup.{Setup}
use Rattle.psi.specs.Packet.{Bytes}
use Rattle.carrier.specs.Meaning.{Meaning}
use Rattle.rules.specs.Slots.{Frame}
use Rattle.rules.specs.State.{State}
use Rattle.rules.specs.Calls.{Hears, Loses, Records, FrameAnswer, Frames}

-- There is an answer with a next state of which R holds.
abbrev pub Answered : {A : Type 0} → (A → State → Type 0) → Type 0
Answered {A} R = (r : A) × (s' : State) × R r s'

-- There is but one.
abbrev pub Determined : {A : Type 0} → (A → State → Type 0) → Type 0
Determined {A} R = (r₁ r₂ : A) (s₁ s₂ : State) → R r₁ s₁ → R r₂ s₂ → (r₁ ≡ r₂) × (s₁ ≡ s₂)

pub record OneAnswer {A : Type 0} (R : A → State → Type 0) : Type 0 where
  pub answered : Answered R
  pub determined : Determined R

-- The same of a frame call, whose carrier means k at first: of what the carrier then means, packets and capacity are determined.
pub record SameCarrier (k₁ k₂ : Meaning) : Type 0 where
  pub packets : k₁.packets ≡ k₂.packets
  pub capacity : k₁.capacity ≡ k₂.capacity

pub record OneFrame (c : Setup) (memory : ℕ) (s : State) (k : Meaning) : Type 0 where
  pub answered : (r : FrameAnswer) × (s' : State) × (k' : Meaning) × Frames c memory s k r s' k'
  pub determined : (r₁ r₂ : FrameAnswer) (s₁ s₂ : State) (k₁ k₂ : Meaning) → Frames c memory s k r₁ s₁ k₁ → Frames c memory s k r₂ s₂ k₂
      → (r₁ ≡ r₂) × (s₁ ≡ s₂) × SameCarrier k₁ k₂

abbrev pub HearHasOne : Type 0
HearHasOne = (c : Setup) (memory : ℕ) (s : State) (p : ℕ) (x : Bytes) (t : Option ℕ) → OneAnswer (Hears c memory s p x t)

abbrev pub LossHasOne : Type 0
LossHasOne = (c : Setup) (memory : ℕ) (s : State) (p : ℕ) → OneAnswer (Loses c memory s p)

abbrev pub RecordHasOne : Type 0
RecordHasOne = (c : Setup) (memory : ℕ) (s : State) (f : Frame) → OneAnswer (Records c memory s f)

abbrev pub FrameHasOne : Type 0
FrameHasOne = (c : Setup) (memory : ℕ) (s : State) (k : Meaning) → OneFrame c memory s k
