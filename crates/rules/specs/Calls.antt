-- The four calls. Each is a relation between the state before, the call with its answer, and the state after: one case for each rule.
-- A refusal is its number. Where several refusals would fit, the lowest number is answered.
use Rattle.std.specs.Prelude.{◌≡◌, ℕ, ◌+◌, ◌<◌, ◌≤◌, Bool, true, false, cond, ◌⊎◌, List, [], ◌∷◌, ◌++◌, map, length, Some, None, Option, nat_lt}
use Rattle.config.specs.Setup.{Setup}
use Rattle.psi.specs.Packet.{Bytes, good_packet}
use Rattle.psi.specs.Delivery.{unmapped, unpatchable, deliverable, deliver}
use Rattle.carrier.specs.Meaning.{Meaning, Carried}
use Rattle.rules.specs.Entries.{Entry, before, from_on, merged}
use Rattle.rules.specs.Slots.{Frame, Turn, end_of, turns, played, waiting, dropped, doubt, reaches_zero}
use Rattle.rules.specs.State.{Hearing, latest, Step, out, following, in_step, State, parents_of, rate_of, parent_at, line_of, Roomy, line_room, lose, know}
use Rattle.rules.specs.Times.{latest_time, Stamp, stamped, Stamps, Untimely}

-- HEAR a parent's packet, with a time or none.

pub data HearAnswer : Type 0 where
  passed_over : HearAnswer
  dropped_it : HearAnswer
  held_it : HearAnswer
  refused_hear : ℕ → HearAnswer

-- The memory suffices and the parent is one of those listed.
pub record Listed (c : Setup) (memory p : ℕ) : Type 0 where
  pub roomy : Roomy c memory
  pub listed : p < parents_of c

-- A good packet of a listed parent.
pub record Good (c : Setup) (memory p : ℕ) (x : Bytes) : Type 0 where
  pub known : Listed c memory p
  pub good : good_packet x ≡ true

-- A good packet of a listed parent that is stamped σ.
pub record Arrives (c : Setup) (memory : ℕ) (s : State) (p : ℕ) (x : Bytes) (t : Option ℕ) (σ : Stamp) : Type 0 where
  pub packet : Good c memory p x
  pub stamps : Stamps (rate_of c p) (parent_at s p) t σ

-- Such a packet that may wait: it arrives from the from-time on, and the map makes this entry of it.
pub record Wanted (c : Setup) (p : ℕ) (x : Bytes) (σ : Stamp) (e : Entry) : Type 0 where
  pub in_time : σ.from ≤ σ.arrival
  pub maps : deliver c p x ≡ deliverable e.row e.bytes
  pub arrives : e.arrival ≡ σ.arrival

pub data Hears (c : Setup) (memory : ℕ) (s : State) (p : ℕ) (x : Bytes) (t : Option ℕ) (r : HearAnswer) (s' : State) : Type 0 where
  -- 5: too little memory.
  short : (Roomy c memory → ⊥) → r ≡ refused_hear 5 → s' ≡ s → Hears c memory s p x t r s'
  -- 6: an unknown parent.
  unknown : Roomy c memory → parents_of c ≤ p → r ≡ refused_hear 6 → s' ≡ s → Hears c memory s p x t r s'
  -- 7: a bad packet. It counts as a loss of its parent.
  bad : Listed c memory p → good_packet x ≡ false → r ≡ refused_hear 7 → s' ≡ lose p s → Hears c memory s p x t r s'
  -- 8: no arrival time can be given to it. It counts as a loss of its parent.
  untimely : Good c memory p x → Untimely (parent_at s p) t → r ≡ refused_hear 8 → s' ≡ lose p s → Hears c memory s p x t r s'
  -- While its parent has no anchor, a packet without a time is passed over.
  unanchored : Good c memory p x → parent_at s p ≡ None → t ≡ None → r ≡ passed_over → s' ≡ s → Hears c memory s p x t r s'
  -- No map row, or arriving before the from-time: passed over. It was taken, so it counts and its arrival is the heard-to time.
  unwanted : (σ : Stamp) → Arrives c memory s p x t σ → (deliver c p x ≡ unmapped) ⊎ (σ.arrival < σ.from)
      → r ≡ passed_over → s' ≡ know p (stamped σ (line_of (parent_at s p))) s
      → Hears c memory s p x t r s'
  -- Under a `pmt` row and not patchable: dropped. It was taken.
  unpatched : (σ : Stamp) → Arrives c memory s p x t σ → σ.from ≤ σ.arrival → deliver c p x ≡ unpatchable
      → r ≡ dropped_it → s' ≡ know p (stamped σ (line_of (parent_at s p))) s
      → Hears c memory s p x t r s'
  -- 9: it would join a full line. Nothing changes, and it was not taken.
  full : (σ : Stamp) (e : Entry) → Arrives c memory s p x t σ → Wanted c p x σ e → line_room c memory ≤ length (line_of (parent_at s p))
      → r ≡ refused_hear 9 → s' ≡ s
      → Hears c memory s p x t r s'
  -- What remains joins the line: held.
  holds : (σ : Stamp) (e : Entry) → Arrives c memory s p x t σ → Wanted c p x σ e → length (line_of (parent_at s p)) < line_room c memory
      → r ≡ held_it → s' ≡ know p (stamped σ (line_of (parent_at s p) ++ e ∷ [])) s
      → Hears c memory s p x t r s'

-- LOSS of a parent.

pub data LossAnswer : Type 0 where
  lost : LossAnswer
  refused_loss : ℕ → LossAnswer

pub data Loses (c : Setup) (memory : ℕ) (s : State) (p : ℕ) (r : LossAnswer) (s' : State) : Type 0 where
  -- 5: too little memory.
  short : (Roomy c memory → ⊥) → r ≡ refused_loss 5 → s' ≡ s → Loses c memory s p r s'
  -- 6: an unknown parent.
  unknown : Roomy c memory → parents_of c ≤ p → r ≡ refused_loss 6 → s' ≡ s → Loses c memory s p r s'
  -- Anchor, times and line of that parent go, and the adapter falls out of step.
  loses : Listed c memory p → r ≡ lost → s' ≡ lose p s → Loses c memory s p r s'

-- RECORD of a frame to come.

pub data RecordAnswer : Type 0 where
  anew : RecordAnswer
  queued : RecordAnswer
  refused_record : ℕ → RecordAnswer

-- at least a slot for each PAT copy, at most 4,096 slots, and a start not above the latest time
pub record InRange (c : Setup) (f : Frame) : Type 0 where
  pub enough : c.copies ≤ f.slots
  pub not_more : f.slots ≤ 4_096
  pub not_later : f.start ≤ latest_time

-- Number and start are one and one frame length more than in the last accepted record.
abbrev pub Follows : Setup → Option Frame → Frame → Type 0
Follows c None f = ⊥
Follows c (Some l) f = (f.number ≡ l.number + 1) × (f.start ≡ end_of c l)

-- how many records may wait
abbrev pub most_records : ℕ
most_records = 8

pub data Records (c : Setup) (memory : ℕ) (s : State) (f : Frame) (r : RecordAnswer) (s' : State) : Type 0 where
  -- 5: too little memory.
  short : (Roomy c memory → ⊥) → r ≡ refused_record 5 → s' ≡ s → Records c memory s f r s'
  -- 10: slots or start out of range.
  outside : Roomy c memory → (InRange c f → ⊥) → r ≡ refused_record 10 → s' ≡ s → Records c memory s f r s'
  -- 11: it follows, and eight wait.
  eight : Roomy c memory → InRange c f → Follows c s.last f → most_records ≤ length s.records
      → r ≡ refused_record 11 → s' ≡ s
      → Records c memory s f r s'
  -- It follows: queued.
  queues : Roomy c memory → InRange c f → Follows c s.last f → length s.records < most_records
      → r ≡ queued
      → s' ≡ record { parents = s.parents; records = s.records ++ f ∷ []; last = Some f; backlog = s.backlog; step = s.step }
      → Records c memory s f r s'
  -- It does not follow, or is the first: it replaces all that wait, and the adapter falls out of step.
  starts : Roomy c memory → InRange c f → (Follows c s.last f → ⊥)
      → r ≡ anew
      → s' ≡ record { parents = s.parents; records = f ∷ []; last = Some f; backlog = []; step = out }
      → Records c memory s f r s'

-- FRAME: the oldest record's frame is skipped, or placed.

pub data FrameAnswer : Type 0 where
  -- its number
  skipped : ℕ → FrameAnswer
  -- its number and how many packets were dropped in it
  followed : ℕ → ℕ → FrameAnswer
  added : ℕ → ℕ → FrameAnswer
  refused_frame : ℕ → FrameAnswer

-- Every parent has an anchor, and this is known of them.
abbrev pub AllHeard : State → List Hearing → Type 0
AllHeard s hs = s.parents ≡ map Some hs

-- Some parent has no anchor.
pub record Silent (s : State) : Type 0 where
  pub parent : ℕ
  pub listed : parent < length s.parents
  pub silent : parent_at s parent ≡ None

-- Every parent has been heard up to a moment, or one has not.
abbrev pub Reach : ℕ → List Hearing → Type 0
Reach e [] = Unit {0}
Reach e (h ∷ hs) = (e ≤ h.heard_to) × Reach e hs

abbrev pub ShortOf : ℕ → List Hearing → Type 0
ShortOf e [] = ⊥
ShortOf e (h ∷ hs) = (h.heard_to < e) ⊎ ShortOf e hs

-- The oldest record is f, and every parent has an anchor.
pub record Called (c : Setup) (memory : ℕ) (s : State) (f : Frame) (rest : List Frame) (hs : List Hearing) : Type 0 where
  pub roomy : Roomy c memory
  pub oldest : s.records ≡ f ∷ rest
  pub anchored : AllHeard s hs

-- Its frame can be placed: it starts no earlier than R, and every parent has been heard up to its end.
pub record Due (c : Setup) (memory : ℕ) (s : State) (f : Frame) (rest : List Frame) (hs : List Hearing) : Type 0 where
  pub called : Called c memory s f rest hs
  pub not_early : latest hs ≤ f.start
  pub heard : Reach (end_of c f) hs

-- Records that start before a moment are let go.
abbrev pub records_from : ℕ → List Frame → List Frame
records_from m [] = []
records_from m (f ∷ fs) = cond (nat_lt f.start m) (records_from m fs) (f ∷ fs)

-- What arrived at a parent before a moment is let go, and that moment is its from-time.
abbrev pub let_go : ℕ → Hearing → Hearing
let_go m h = record { anchor = h.anchor; count = h.count; from = m; heard_to = h.heard_to; line = from_on m h.line }

-- What a frame admits of a line: what arrives before its end. Out of step, what arrived before its start is let go first.
abbrev pub admitted : Setup → Frame → Step → List Entry → List Entry
admitted c f out l = before (end_of c f) (from_on f.start l)
admitted c f (following d) l = before (end_of c f) l
admitted c f in_step l = before (end_of c f) l

-- The turns of the frame, from what waits in the lines.
abbrev pub frame_turns : Setup → State → Frame → List Hearing → List Turn
frame_turns c s f hs = turns c f (merged (map (λ h. admitted c f s.step h.line) hs))

-- The doubt when the frame begins: out of step, following starts with the size of the backlog.
abbrev pub doubt_at : Setup → Step → ℕ
doubt_at c out = c.backlog
doubt_at c (following d) = d
doubt_at c in_step = 0

-- Following ends when the doubt was 0 after some slot: from then on the adapter is in step.
abbrev pub step_after : Bool → ℕ → Step
step_after true d = in_step
step_after false d = following d

abbrev pub followed_to : Setup → State → List Turn → Step
followed_to c s ts = step_after (reaches_zero c.backlog ts (doubt_at c s.step)) (doubt c.backlog ts (doubt_at c s.step))

abbrev pub NotInStep : Step → Type 0
NotInStep out = Unit {0}
NotInStep (following d) = Unit {0}
NotInStep in_step = ⊥

-- A frame was placed: its record goes, every from-time is its end, and the backlog is what waits after it.
abbrev pub placed : Setup → State → Frame → List Frame → List Hearing → Step → State
placed c s f rest hs step =
    record {
      parents = map (λ h. Some (let_go (end_of c f) h)) hs;
      records = rest;
      last = s.last;
      backlog = waiting c.backlog (frame_turns c s f hs) s.backlog;
      step = step;
    }

-- The frame cannot be placed now: the skip. Records before R and packets before R are let go, every from-time is R, out of step.
abbrev pub skipping : State → List Hearing → State
skipping s hs =
    record {
      parents = map (λ h. Some (let_go (latest hs) h)) hs;
      records = records_from (latest hs) s.records;
      last = s.last;
      backlog = [];
      step = out;
    }

-- The carrier means k before the call and k' after it.
pub data Frames (c : Setup) (memory : ℕ) (s : State) (k : Meaning) (r : FrameAnswer) (s' : State) (k' : Meaning) : Type 0 where
  -- 5: too little memory.
  short : (Roomy c memory → ⊥) → r ≡ refused_frame 5 → s' ≡ s → k' ≡ k → Frames c memory s k r s' k'
  -- 12: no record.
  none : Roomy c memory → s.records ≡ [] → r ≡ refused_frame 12 → s' ≡ s → k' ≡ k → Frames c memory s k r s' k'
  -- 13: a parent without anchor.
  silent : Roomy c memory → (f : Frame) (rest : List Frame) → s.records ≡ f ∷ rest → Silent s
      → r ≡ refused_frame 13 → s' ≡ s → k' ≡ k
      → Frames c memory s k r s' k'
  -- The frame starts before R: skipped.
  skips : (f : Frame) (rest : List Frame) (hs : List Hearing) → Called c memory s f rest hs → f.start < latest hs
      → r ≡ skipped f.number → s' ≡ skipping s hs → k' ≡ k
      → Frames c memory s k r s' k'
  -- 13: a heard-to time before the frame's end.
  unheard : (f : Frame) (rest : List Frame) (hs : List Hearing) → Called c memory s f rest hs → latest hs ≤ f.start → ShortOf (end_of c f) hs
      → r ≡ refused_frame 13 → s' ≡ s → k' ≡ k
      → Frames c memory s k r s' k'
  -- 14: in step, and fewer free places in the carrier than slots in the frame.
  crowded : (f : Frame) (rest : List Frame) (hs : List Hearing) → Due c memory s f rest hs → s.step ≡ in_step → k.free < f.slots
      → r ≡ refused_frame 14 → s' ≡ s → k' ≡ k
      → Frames c memory s k r s' k'
  -- Not in step: the frame is placed and goes nowhere, followed.
  follows : (f : Frame) (rest : List Frame) (hs : List Hearing) → Due c memory s f rest hs → NotInStep s.step
      → r ≡ followed f.number (dropped c.backlog (frame_turns c s f hs) s.backlog)
      → s' ≡ placed c s f rest hs (followed_to c s (frame_turns c s f hs))
      → k' ≡ k
      → Frames c memory s k r s' k'
  -- In step: the frame's packets go to the carrier in slot order, added.
  adds : (f : Frame) (rest : List Frame) (hs : List Hearing) → Due c memory s f rest hs → s.step ≡ in_step → f.slots ≤ k.free
      → r ≡ added f.number (dropped c.backlog (frame_turns c s f hs) s.backlog)
      → s' ≡ placed c s f rest hs in_step
      → Carried (played c f.number (frame_turns c s f hs) s.backlog) k k'
      → Frames c memory s k r s' k'
