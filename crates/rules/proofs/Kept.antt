-- What every complete log keeps: the state is what the log tells.
use Rattle.std.proofs.Common.{◌≡◌, ℕ, ◌+◌, ◌<◌, List, [], ◌∷◌, length, Some, None, Option}
use Rattle.config.specs.Setup.{Setup}
use Rattle.rules.specs.Entries.{Entry, from_on}
use Rattle.rules.specs.Slots.{Frame, end_of}
use Rattle.rules.specs.State.{Hearing, Parent, State, Step, out, following, in_step, parents_of, rate_of, parent_at}
use Rattle.rules.specs.Times.{after}
use Rattle.rules.specs.Log.{Log, News, Tracked, tracked, tracked_by, held, held_by, last_accepted, record_of, Placed, run, Tally, blank, count, clear, tally, backlog_after}
use Rattle.rules.proofs.Ordered.{Rises, Atmost}

-- a parent is what the log tells of it
pub record Heard (rate : ℕ) (k : Option Tracked) (l : List Entry) (h : Hearing) : Type 0 where
  pub tracks : k ≡ Some (record { anchor = h.anchor; count = h.count; heard_to = h.heard_to })
  pub counts : h.heard_to ≡ h.anchor + after rate h.count
  pub line : h.line ≡ from_on h.from l
  pub rises : Rises l
  pub top : Atmost h.heard_to l

pub data Ok (rate : ℕ) (k : Option Tracked) (l : List Entry) (P : Parent) : Type 0 where
  quiet : P ≡ None → k ≡ None → l ≡ [] → Ok rate k l P
  known : (h : Hearing) → P ≡ Some h → Heard rate k l h → Ok rate k l P

abbrev pub ParentOk : Setup → Log → ℕ → Parent → Type 0
ParentOk c log p P = Ok (rate_of c p) (tracked c p log) (held c p log) P

-- the same after one more event that is this to the parent
abbrev pub OkAfter : Setup → Log → ℕ → News → Parent → Type 0
OkAfter c log p n P = Ok (rate_of c p) (tracked_by (rate_of c p) n (tracked c p log)) (held_by c p n (tracked c p log) (held c p log)) P

-- waiting records are consecutive, end with the last accepted one, and are those that the log has under their numbers
abbrev pub Chain : Setup → (ℕ → Option Frame) → Option Frame → List Frame → Type 0
Chain c look l [] = Unit {0}
Chain c look l (f ∷ []) = (look f.number ≡ Some f) × (l ≡ Some f)
Chain c look l (f ∷ g ∷ rest) = (look f.number ≡ Some f) × (g.number ≡ f.number + 1) × (g.start ≡ end_of c f) × Chain c look l (g ∷ rest)

-- the record that comes after frame g starts at e
abbrev pub Coming : Setup → Option Frame → ℕ → ℕ → List Frame → Type 0
Coming c l g e [] = (f : Frame) × (l ≡ Some f) × (f.number ≡ g) × (end_of c f ≡ e)
Coming c l g e (f ∷ rest) = (f.number ≡ g + 1) × (f.start ≡ e)

-- the newest frame of a run
abbrev pub newest_of : List Placed → Option ℕ
newest_of [] = None
newest_of (p ∷ l) = Some p.number

pub record Ongoing (c : Setup) (l : List Placed) (s : State) (g e : ℕ) : Type 0 where
  pub newest : newest_of l ≡ Some g
  pub waits : s.backlog ≡ backlog_after c.backlog l
  pub froms : (p : ℕ) → p < parents_of c → (h : Hearing) × (parent_at s p ≡ Some h) × (h.from ≡ e)
  pub coming : Coming c s.last g e s.records

abbrev pub Going : Setup → Tally → List Placed → State → Step → Type 0
Going c t l s out = (t ≡ blank) × (l ≡ []) × (s.backlog ≡ [])
Going c t l s (following d) = (t ≡ count d) × (g : ℕ) × (e : ℕ) × Ongoing c l s g e
Going c t l s in_step = (t ≡ clear) × (g : ℕ) × (e : ℕ) × Ongoing c l s g e

pub record Kept (c : Setup) (log : Log) (s : State) : Type 0 where
  pub size : length s.parents ≡ parents_of c
  pub heard : (p : ℕ) → p < parents_of c → ParentOk c log p (parent_at s p)
  pub last : s.last ≡ last_accepted log
  pub chain : Chain c (λ n. record_of n log) s.last s.records
  pub going : Going c (tally c log) (run c log) s s.step
