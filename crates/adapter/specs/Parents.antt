-- Parents as the rules have them, from what is kept of their times and what waits in their lines.
use Rattle.std.specs.Prelude.{◌≡◌, ℕ, ◌<◌, max, nat_le, Bool, true, List, [], ◌∷◌, length, Some, None, Ok, Err, Option, Result, ◌≢◌, slice_index_or}
use Rattle.rules.specs.Entries.{Entry}
use Rattle.rules.specs.State.{Hearing, Parent}
use Rattle.rules.specs.Times.{Stamp, stamped, Stamps, Untimely as Unstamped}
use Rattle.adapter.specs.declared.times.Times.{Times}
use Rattle.adapter.specs.declared.times.stamp.Untimely.{Untimely}

-- The times of a parent, as the stamp of the last packet taken from it.
abbrev pub stamp_of : Times → Stamp
stamp_of t = record { arrival = t.heard_to; anchor = t.anchor; count = t.count; from = t.from }

-- A parent of which these times are known, if it has an anchor, with this line.
abbrev pub parent_of : Option Times → List Entry → Parent
parent_of None line = None
parent_of (Some t) line = Some (stamped (stamp_of t) line)

-- One parent for each line, in order.
abbrev pub parents_by : List (Option Times) → List (List Entry) → List Parent
parents_by ts [] = []
parents_by [] (l ∷ ls) = []
parents_by (t ∷ ts) (l ∷ ls) = parent_of t l ∷ parents_by ts ls

-- What is known of the parents that have an anchor, in order.
abbrev pub hearings : List (Option Times) → List (List Entry) → List Hearing
hearings ts [] = []
hearings [] (l ∷ ls) = []
hearings (None ∷ ts) (l ∷ ls) = hearings ts ls
hearings (Some t ∷ ts) (l ∷ ls) = stamped (stamp_of t) l ∷ hearings ts ls

-- The parent has another from-time.
abbrev pub moved : ℕ → Parent → Parent
moved m None = None
moved m (Some h) = Some (record { anchor = h.anchor; count = h.count; from = m; heard_to = h.heard_to; line = h.line })

-- Each of these parents has another from-time.
pub record Restarted (m : ℕ) (before after : List (Option Times)) : Type 0 where
  pub many : length after ≡ length before
  pub each : (p : ℕ) (line : List Entry) → parent_of (slice_index_or after p None) line ≡ moved m (parent_of (slice_index_or before p None) line)

-- R: the latest of their from-times.
abbrev pub from_at : Option Times → ℕ
from_at None = 0
from_at (Some t) = t.from

abbrev pub latest_of : List (Option Times) → ℕ
latest_of [] = 0
latest_of (t ∷ ts) = max (from_at t) (latest_of ts)

-- One of these parents has no anchor, or all have one and R is this.
abbrev pub LatestSo : List (Option Times) → Option ℕ → Type 0
LatestSo ts None = (p : ℕ) × (p < length ts) × (slice_index_or ts p None ≡ None)
LatestSo ts (Some latest) = ((p : ℕ) → p < length ts → slice_index_or ts p None ≢ None) × (latest ≡ latest_of ts)

-- Whether a parent, if it has an anchor, was heard up to e.
abbrev pub reaches : ℕ → Option Times → Bool
reaches e None = true
reaches e (Some t) = nat_le e t.heard_to

-- What is known of a parent once its packet, handed with this time or none, is taken, by the rules; or that it cannot be.
abbrev pub TakenSo : ℕ → Parent → Option ℕ → Result Times Untimely → Type 0
TakenSo rate P t (Ok times) = Stamps rate P t (stamp_of times)
TakenSo rate P t (Err untimely) = Unstamped P t

-- The same of any packet: before its parent has an anchor, one without a time is neither taken nor refused.
abbrev pub StampedSo : ℕ → Parent → Option ℕ → Result (Option Times) Untimely → Type 0
StampedSo rate P t (Ok None) = (P ≡ None) × (t ≡ None)
StampedSo rate P t (Ok (Some times)) = TakenSo rate P t (Ok times)
StampedSo rate P t (Err untimely) = TakenSo rate P t (Err untimely)
