-- The steps by which a frame is placed.
use Rattle.std.specs.Prelude.{◌≡◌, ℕ, ◌+◌, ◌<◌, ◌≤◌, min, Bool, true, false, cond, ◌||◌, List, [], ◌∷◌, map, length, Some, None, Option, ◌==◌, nat_lt, slice_index_or, slice_set}
use Rattle.config.specs.Setup.{Setup}
use Rattle.memory.specs.Memory.{lines_in, backlog_in, size_in, SameShares}
use Rattle.memory.specs.declared.Memory.{Memory}
use Rattle.waiting.specs.Waiting.{oldest}
use Rattle.carrier.specs.Meaning.{Meaning, Carried}
use Rattle.psi.specs.Packet.{Bytes, byte}
use Rattle.rules.specs.Entries.{Entry}
use Rattle.rules.specs.Slots.{Frame}
use Rattle.rules.specs.Entries.{before, from_on, merged}
use Rattle.rules.specs.Invariants.{InOrder}
use Rattle.rules.specs.Slots.{Use, pat, payload, Turn, join, joins, drops, stays, lowered, use_of, end_of, turns_from, waiting, dropped, doubt, reaches_zero}
use Rattle.rules.specs.Calls.{FrameAnswer, followed, added}
use Rattle.rules.specs.State.{Step, out, following, in_step}
use Rattle.adapter.specs.declared.place.Course.{Course}

-- the first entry of line p, if one waits there
abbrev pub first_of : List (List Entry) → ℕ → Option Entry
first_of ls p = oldest (slice_index_or ls p [])

-- Of the first n lines, none has a first entry that arrives before m.
abbrev pub NoneEarlier : ℕ → ℕ → List (List Entry) → Type 0
NoneEarlier m n ls = (q : ℕ) (d : Entry) → q < n → first_of ls q ≡ Some d → m ≤ d.arrival

-- Line p has a first entry e before the limit. Of the first n lines none has an earlier one, and no lower line one at the same time.
pub record First-in (limit n : ℕ) (ls : List (List Entry)) (p : ℕ) (e : Entry) : Type 0 where
  pub within : p < n
  pub first : first_of ls p ≡ Some e
  pub early : e.arrival < limit
  pub lower : NoneEarlier (e.arrival + 1) p ls
  pub others : NoneEarlier e.arrival n ls

-- The line whose first entry comes next, if one arrives before the limit.
abbrev pub NextIn : ℕ → List (List Entry) → Option ℕ → Type 0
NextIn limit ls None = NoneEarlier limit (length ls) ls
NextIn limit ls (Some p) = (e : Entry) × First-in limit (length ls) ls p e

-- each line is in order of arrival
abbrev pub LinesInOrder : List (List Entry) → Type 0
LinesInOrder ls = (q : ℕ) → InOrder (slice_index_or ls q [])

-- One entry left line p: it joined the backlog, or was dropped if the backlog was full; the doubt rose.
pub record AdmittedOne (p : ℕ) (e : Entry) (rest : List Entry) (m m' : Memory Entry) (k k' : Course) : Type 0 where
  pub lines : lines_in m' ≡ slice_set (lines_in m) p rest
  pub backlog : backlog_in m' ≡ join (size_in m) (backlog_in m) e
  pub counts : k'.drops ≡ k.drops + cond (nat_lt (length (backlog_in m)) (size_in m)) 0 1
  pub doubts : k'.doubt ≡ min (size_in m) (k.doubt + 1)
  pub zero : k'.zero ≡ k.zero

-- All that arrives before the limit was admitted, in order.
pub record Admitted (limit : ℕ) (m m' : Memory Entry) (k k' : Course) : Type 0 where
  pub lines : lines_in m' ≡ map (from_on limit) (lines_in m)
  pub backlog : backlog_in m' ≡ joins (size_in m) (backlog_in m) (before limit (merged (lines_in m)))
  pub counts : k'.drops ≡ k.drops + drops (size_in m) (backlog_in m) (before limit (merged (lines_in m)))
  pub doubts : k'.doubt ≡ min (size_in m) (k.doubt + length (before limit (merged (lines_in m))))
  pub zero : k'.zero ≡ k.zero
  pub shares : SameShares m m'
  -- no more were dropped than are gone
  pub fits : k'.drops + length (merged (lines_in m')) ≤ k.drops + length (merged (lines_in m))

-- which PAT copy a slot takes, if it takes one
abbrev pub copy_of : Use → Option ℕ
copy_of (pat i) = Some i
copy_of payload = None

-- A slot took its packet.
pub record Filled (c : Setup) (f : Frame) (slot : ℕ) (m m' : Memory Entry) (k k' : Course) : Type 0 where
  pub backlog : backlog_in m' ≡ stays (use_of c f slot) (backlog_in m)
  pub lines : lines_in m' ≡ lines_in m
  pub counts : k'.drops ≡ k.drops
  pub doubts : k'.doubt ≡ lowered (use_of c f slot) k.doubt
  pub zero : k'.zero ≡ (k.zero || k'.doubt == 0)
  pub shares : SameShares m m'

-- 188 bytes, the sync byte first: what a carrier takes
abbrev pub Whole : Bytes → Type 0
Whole x = (length x ≡ 188) × (byte x 0 ≡ 0x47)

-- all that waits can go to a carrier
abbrev pub AllWhole : List Entry → Type 0
AllWhole [] = Unit {0}
AllWhole (e ∷ es) = Whole e.bytes × AllWhole es

-- Packets go to the carrier, or nowhere, and then it is left as it was.
abbrev pub Goes : {C : Type 0} → (C → Meaning) → Bool → List Bytes → C → C → Type 0
Goes meaning true ps k k' = Carried ps (meaning k) (meaning k')
Goes meaning false ps k k' = k' ≡ k

-- A frame's turns, when placing begins with these lines.
abbrev pub turns_of_lines : Setup → Frame → List (List Entry) → List Turn
turns_of_lines c f ls = turns_from c f f.slots 0 (merged ls)

-- A frame was placed, beginning with this doubt.
pub record PlacedSo (c : Setup) (f : Frame) (d : ℕ) (m m' : Memory Entry) (k : Course) : Type 0 where
  pub lines : lines_in m' ≡ map (from_on (end_of c f)) (lines_in m)
  pub backlog : backlog_in m' ≡ waiting c.backlog (turns_of_lines c f (lines_in m)) (backlog_in m)
  pub counts : k.drops ≡ dropped c.backlog (turns_of_lines c f (lines_in m)) (backlog_in m)
  pub doubts : k.doubt ≡ doubt c.backlog (turns_of_lines c f (lines_in m)) d
  pub zero : k.zero ≡ reaches_zero c.backlog (turns_of_lines c f (lines_in m)) d
  pub shares : SameShares m m'

-- A line when placing begins: out of step, what arrived before the frame's start is let go.
abbrev pub begun : Frame → Step → List Entry → List Entry
begun f out l = from_on f.start l
begun f (following d) l = l
begun f in_step l = l

-- what a placed frame answers: its number and its drops, added or followed
abbrev pub placed_answer : Bool → ℕ → ℕ → FrameAnswer
placed_answer true number drops = added number drops
placed_answer false number drops = followed number drops
