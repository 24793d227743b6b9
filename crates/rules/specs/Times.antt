-- Arrival times, in 27 MHz ticks.
use Rattle.std.specs.Prelude.{◌≡◌, ℕ, ◌+◌, ◌*◌, ◌/◌, ◌^◌, ◌<◌, ◌≤◌, List, Some, None, Option}
use Rattle.rules.specs.Entries.{Entry}
use Rattle.rules.specs.State.{Hearing, Parent}

-- How long after its anchor the k-th packet arrives, at so many bits per second: 1,504 bits for each packet, 27,000,000 ticks to a second.
unfoldable pub after : ℕ → ℕ → ℕ
after rate k = k * 40_608_000_000 / rate

-- These times rise, whatever rate a checked configuration has.
abbrev pub AfterRises : Type 0
AfterRises = (rate k : ℕ) → 100_000 ≤ rate → rate ≤ 100_000_000 → after rate k < after rate (k + 1)

-- no time may be handed that is later, and no start of a frame
abbrev pub latest_time : ℕ
latest_time = 2 ^ 60

-- how many packets may follow an anchor
abbrev pub most_counted : ℕ
most_counted = 100_000

-- What the time handed with a packet, or none, makes of it.
pub record Stamp : Type 0 where
  -- when the packet arrives
  pub arrival : ℕ
  -- the anchor that the next packet counts from, and how many were taken after it
  pub anchor : ℕ
  pub count : ℕ
  -- its parent's from-time
  pub from : ℕ

-- what is then known of the parent, with this line
abbrev pub stamped : Stamp → List Entry → Hearing
stamped σ line = record { anchor = σ.anchor; count = σ.count; from = σ.from; heard_to = σ.arrival; line = line }

-- A packet of a parent of which P is known is handed with time t, or none, and so it is stamped σ.
pub data Stamps (rate : ℕ) (P : Parent) (t : Option ℕ) (σ : Stamp) : Type 0 where
  -- The first anchor since power-up or the last loss: its time is the parent's from-time too.
  first_anchor : (a : ℕ) → P ≡ None → t ≡ Some a → a ≤ latest_time
      → σ ≡ record { arrival = a; anchor = a; count = 0; from = a }
      → Stamps rate P t σ
  -- A later anchor: the from-time stays.
  later_anchor : (h : Hearing) (a : ℕ) → P ≡ Some h → t ≡ Some a → a ≤ latest_time → h.heard_to < a
      → σ ≡ record { arrival = a; anchor = a; count = 0; from = h.from }
      → Stamps rate P t σ
  -- The k-th packet after an anchor.
  counted : (h : Hearing) → P ≡ Some h → t ≡ None → h.count < most_counted
      → σ ≡ record { arrival = h.anchor + after rate (h.count + 1); anchor = h.anchor; count = h.count + 1; from = h.from }
      → Stamps rate P t σ

-- No arrival time can be given to it.
pub data Untimely (P : Parent) (t : Option ℕ) : Type 0 where
  -- the time handed is above the latest
  too_late : (a : ℕ) → t ≡ Some a → latest_time < a → Untimely P t
  -- the time handed is not after the last arrival
  not_after : (h : Hearing) (a : ℕ) → P ≡ Some h → t ≡ Some a → a ≤ h.heard_to → Untimely P t
  -- no time is handed, and too many packets followed the anchor
  too_many : (h : Hearing) → P ≡ Some h → t ≡ None → most_counted ≤ h.count → Untimely P t
