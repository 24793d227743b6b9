-- What an adapter holds, told by plain lists and numbers.
use Rattle.std.specs.Prelude.{ℕ, ◌+◌, ◌-◌, ◌/◌, ◌≤◌, min, max, List, [], ◌∷◌, length, replicate, Some, None, Option, slice_index, slice_index_or, slice_set}
use Rattle.config.specs.Rows.{SettingsInRange, RatesInRange}
use Rattle.config.specs.Setup.{Setup}
use Rattle.rules.specs.Entries.{Entry}
use Rattle.rules.specs.Slots.{Frame}

-- The numbers of a checked configuration lie in their ranges.
pub record Checked (c : Setup) : Type 0 where
  pub settings : SettingsInRange c.ticks c.backlog c.copies c.tsid
  pub parents : RatesInRange c.rates

abbrev pub parents_of : Setup → ℕ
parents_of c = length c.rates

-- bits per second of a parent
abbrev pub rate_of : Setup → ℕ → ℕ
rate_of c p = slice_index c.rates p

-- What is known of a parent from its first anchor on.
pub record Hearing : Type 0 where
  -- the time of its last anchor: the last packet handed with a time
  pub anchor : ℕ
  -- how many packets were taken after that anchor
  pub count : ℕ
  -- its from-time: what arrived before it is no longer wanted
  pub from : ℕ
  -- its heard-to time: when the last packet taken arrived
  pub heard_to : ℕ
  -- its line: the packets held that wait to be admitted
  pub line : List Entry

-- R, the latest from-time of some parents.
abbrev pub latest : List Hearing → ℕ
latest [] = 0
latest (h ∷ []) = h.from
latest (h ∷ g ∷ hs) = max h.from (latest (g ∷ hs))

-- A parent without anchor has no times, and nothing waits in its line.
abbrev pub Parent : Type 0
Parent = Option Hearing

-- Out of step: nothing is known of what waits at other sites. Following: frames are placed and thrown away, while the doubt says how many
-- packets might wait elsewhere. In step: the backlog is that of every other site in step, and frames go to the carrier.
pub data Step : Type 0 where
  out : Step
  following : ℕ → Step
  in_step : Step

pub record State : Type 0 where
  pub parents : List Parent
  -- the records that wait, the oldest first
  pub records : List Frame
  -- the last accepted record
  pub last : Option Frame
  -- the packets admitted that wait for a data slot, the first to go first
  pub backlog : List Entry
  pub step : Step

-- Power-up: no parent has an anchor, nothing waits, out of step.
abbrev pub power_up : Setup → State
power_up c = record { parents = replicate (parents_of c) None; records = []; last = None; backlog = []; step = out }

abbrev pub parent_at : State → ℕ → Parent
parent_at s p = slice_index_or s.parents p None

abbrev pub line_of : Parent → List Entry
line_of None = []
line_of (Some h) = h.line

-- The memory has an entry for each place of the backlog and one for each parent at least.
abbrev pub Roomy : Setup → ℕ → Type 0
Roomy c memory = c.backlog + parents_of c ≤ memory

-- how many entries each parent's line has
abbrev pub line_room : Setup → ℕ → ℕ
line_room c memory = min 4_096 ((memory - c.backlog) / parents_of c)

-- A loss: the parent's anchor, times and line go, and the adapter falls out of step, which empties the backlog.
abbrev pub lose : ℕ → State → State
lose p s = record { parents = slice_set s.parents p None; records = s.records; last = s.last; backlog = []; step = out }

-- What is known of a parent becomes this, and nothing else changes.
abbrev pub know : ℕ → Hearing → State → State
know p h s = record { parents = slice_set s.parents p (Some h); records = s.records; last = s.last; backlog = s.backlog; step = s.step }
