-- What holds of an adapter after every complete log.
use Rattle.std.specs.Prelude.{◌≡◌, ℕ, ◌<◌, ◌≤◌, List, [], ◌∷◌, length, Some, None, Option}
use Rattle.config.specs.Setup.{Setup}
use Rattle.rules.specs.Entries.{Entry}
use Rattle.rules.specs.Slots.{Frame, end_of}
use Rattle.rules.specs.State.{Checked, Hearing, State, Step, out, following, in_step, parents_of, parent_at, line_of, line_room}
use Rattle.rules.specs.Calls.{Follows, most_records}
use Rattle.rules.specs.Log.{Log, Leads}

-- In a line each packet arrives later than the one before it.
abbrev pub InOrder : List Entry → Type 0
InOrder [] = Unit {0}
InOrder (e ∷ []) = Unit {0}
InOrder (e ∷ d ∷ es) = (e.arrival < d.arrival) × InOrder (d ∷ es)

-- Each packet of a line arrives from one moment on and no later than another.
abbrev pub AllWithin : ℕ → ℕ → List Entry → Type 0
AllWithin low high [] = Unit {0}
AllWithin low high (e ∷ es) = (low ≤ e.arrival) × (e.arrival ≤ high) × AllWithin low high es

-- Each record follows the one before it.
abbrev pub Consecutive : Setup → List Frame → Type 0
Consecutive c [] = Unit {0}
Consecutive c (f ∷ []) = Unit {0}
Consecutive c (f ∷ g ∷ rest) = Follows c (Some f) g × Consecutive c (g ∷ rest)

-- Where the next frame starts: at the start of the oldest record, or where the last accepted one ends.
abbrev pub next_start : Setup → List Frame → Option Frame → ℕ
next_start c (f ∷ rest) last = f.start
next_start c [] (Some f) = end_of c f
next_start c [] None = 0

-- Every parent has an anchor, and its from-time is this.
abbrev pub FromTimes : Setup → State → ℕ → Type 0
FromTimes c s e = (p : ℕ) → p < parents_of c → (h : Hearing) × (parent_at s p ≡ Some h) × (h.from ≡ e)

-- While not out of step, all from-times stand where the next frame starts.
abbrev pub Steady : Setup → State → Step → Type 0
Steady c s out = Unit {0}
Steady c s (following d) = FromTimes c s (next_start c s.records s.last)
Steady c s in_step = FromTimes c s (next_start c s.records s.last)

-- While following, the doubt is no more than the size of the backlog.
abbrev pub DoubtWithin : ℕ → Step → Type 0
DoubtWithin q out = Unit {0}
DoubtWithin q (following d) = d ≤ q
DoubtWithin q in_step = Unit {0}

pub record Sound (c : Setup) (s : State) : Type 0 where
  -- one place for each parent
  pub size : length s.parents ≡ parents_of c
  -- lines are in order of arrival, between from-time and heard-to time
  pub ordered : (p : ℕ) (h : Hearing) → p < parents_of c → parent_at s p ≡ Some h → InOrder h.line
  pub bounded : (p : ℕ) (h : Hearing) → p < parents_of c → parent_at s p ≡ Some h → AllWithin h.from h.heard_to h.line
  -- no more wait in the backlog than it has places
  pub backlog : length s.backlog ≤ c.backlog
  -- at most eight records wait, each follows the one before it
  pub few : length s.records ≤ most_records
  pub records : Consecutive c s.records
  pub doubt : DoubtWithin c.backlog s.step
  pub steady : Steady c s s.step

abbrev pub AlwaysSound : Type 0
AlwaysSound = (c : Setup) (memory : ℕ) (log : Log) (s : State) → Checked c → Leads c memory log s → Sound c s

-- And no line is longer than the entries that it has.
abbrev pub AlwaysFits : Type 0
AlwaysFits = (c : Setup) (memory : ℕ) (log : Log) (s : State) → Leads c memory log s → (p : ℕ) → length (line_of (parent_at s p)) ≤ line_room c memory
