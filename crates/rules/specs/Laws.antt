-- The two laws, over every complete log.
use Rattle.std.specs.Prelude.{◌≡◌, ℕ, ◌+◌, ◌<◌, ◌≤◌, true, cond, ◌⊎◌, List, [], ◌∷◌, ◌++◌, Some, None, Option, ◌≢◌, nat_lt, slice_index_or}
use Rattle.config.specs.Setup.{Setup}
use Rattle.psi.specs.Packet.{Bytes}
use Rattle.carrier.specs.Meaning.{Meaning, Carried}
use Rattle.rules.specs.Slots.{Frame, end_of, dropped}
use Rattle.rules.specs.State.{State, Checked, parents_of, rate_of}
use Rattle.rules.specs.Times.{after, most_counted}
use Rattle.rules.specs.Calls.{FrameAnswer, skipped, followed, added, refused_frame}
use Rattle.rules.specs.Log.{Event, hear, loss, recorded, framed, Log, Leads, News, nothing, gone, took, news, Tracked, tracked, log_turns, last_accepted, record_of, accepted, clear, tally, backlog_of, placement, last_placed}

-- FIRST LAW: only from a clear tally, and then always.

-- Every parent has been heard up to e at least.
abbrev pub HeardUntil : Setup → Log → ℕ → Type 0
HeardUntil c log e = (p : ℕ) → p < parents_of c → (k : Tracked) × (tracked c p log ≡ Some k) × (e ≤ k.heard_to)

-- Some parent has not.
pub record Unheard (c : Setup) (log : Log) (e : ℕ) : Type 0 where
  pub parent : ℕ
  pub known : Tracked
  pub listed : parent < parents_of c
  pub tracks : tracked c parent log ≡ Some known
  pub before : known.heard_to < e

-- The last frame followed or added was g, and the record after it was accepted.
pub record ComingUp (c : Setup) (log : Log) (g : ℕ) (f : Frame) : Type 0 where
  pub last : last_placed log ≡ Some g
  pub record_is : record_of (g + 1) log ≡ Some f

-- What a frame call does when the tally is clear.
pub data Next (c : Setup) (log : Log) (k : Meaning) (r : FrameAnswer) (k' : Meaning) : Type 0 where
  -- 12: the last accepted record is that of the last frame placed.
  no_record : (g : ℕ) (l : Frame) → last_placed log ≡ Some g → last_accepted log ≡ Some l → l.number ≡ g
      → r ≡ refused_frame 12 → k' ≡ k
      → Next c log k r k'
  -- 13: some parent was not heard up to the frame's end.
  not_heard : (g : ℕ) (f : Frame) → ComingUp c log g f → Unheard c log (end_of c f)
      → r ≡ refused_frame 13 → k' ≡ k
      → Next c log k r k'
  -- 14: all parents were, and the carrier has fewer free places than the frame has slots.
  no_room : (g : ℕ) (f : Frame) → ComingUp c log g f → HeardUntil c log (end_of c f) → k.free < f.slots
      → r ≡ refused_frame 14 → k' ≡ k
      → Next c log k r k'
  -- Otherwise the frame is added, with its drops, and the carrier grows by exactly its placement.
  adds_it : (g : ℕ) (f : Frame) → ComingUp c log g f → HeardUntil c log (end_of c f) → f.slots ≤ k.free
      → r ≡ added (g + 1) (dropped c.backlog (log_turns c f log) (backlog_of c log))
      → Carried (placement c log f) k k'
      → Next c log k r k'

pub record FromClear (c : Setup) (log : Log) (k : Meaning) (r : FrameAnswer) (k' : Meaning) : Type 0 where
  -- A frame is added only from a clear tally.
  pub only : (f n : ℕ) → r ≡ added f n → tally c log ≡ clear
  -- While the tally is not clear the carrier holds what it held.
  pub unless : (tally c log ≢ clear) → k' ≡ k
  -- From a clear tally the next frame is added, but for the reasons that the log tells.
  pub always : tally c log ≡ clear → Next c log k r k'

-- For every complete log that ends with a frame call; `log` is what went before that call.
abbrev pub OnlyFromClear : Type 0
OnlyFromClear =
    (c : Setup) (memory : ℕ) (log : Log) (s : State) (k k' : Meaning) (r : FrameAnswer) →
    Checked c → Leads c memory (framed k r k' ∷ log) s → FromClear c log k r k'

-- SECOND LAW: equal frames.

-- A parent's stream: packets, each with a time or none.
abbrev pub Handed : Type 0
Handed = Bytes × Option ℕ

abbrev pub Stream : Type 0
Stream = List Handed

-- The last anchor of a stream, and how many packets came after it.
pub record Anchor : Type 0 where
  pub time : ℕ
  pub count : ℕ

-- When a packet of a stream arrives: it has no arrival before the first anchor, nor too far behind an anchor.
abbrev pub stamp : ℕ → Option Anchor → Option ℕ → Option ℕ
stamp rate a (Some t) = Some t
stamp rate None None = None
stamp rate (Some a) None = cond (nat_lt a.count most_counted) (Some (a.time + after rate (a.count + 1))) None

-- The anchor that the packet after it counts from.
abbrev pub onward : Option Anchor → Option ℕ → Option Anchor
onward a (Some t) = Some (record { time = t; count = 0 })
onward None None = None
onward (Some a) None = cond (nat_lt a.count most_counted) (Some (record { time = a.time; count = a.count + 1 })) None

abbrev pub times : ℕ → Option Anchor → Stream → List (Option ℕ)
times rate a [] = []
times rate a (h ∷ hs) = stamp rate a h.1 ∷ times rate (onward a h.1) hs

-- Its arrival times only rise.
abbrev pub Rising : ℕ → Stream → Type 0
Rising rate hs =
    (i j a b : ℕ) → i < j → slice_index_or (times rate None hs) i None ≡ Some a → slice_index_or (times rate None hs) j None ≡ Some b → a < b

abbrev pub StreamsRise : Setup → List Stream → Type 0
StreamsRise c streams = (p : ℕ) → p < parents_of c → Rising (rate_of c p) (slice_index_or streams p [])

-- The packets taken from a parent since its last loss, the oldest first.
abbrev pub taken_by : News → List Handed → List Handed
taken_by nothing l = l
taken_by gone l = []
taken_by (took x t h) l = l ++ (x, t) ∷ []

abbrev pub taken : ℕ → Log → List Handed
taken p [] = []
taken p (e ∷ past) = taken_by (news p e) (taken p past)

-- They follow one another in the stream, each with the time or none that it has there.
abbrev pub InStream : List Handed → Stream → Type 0
InStream l stream = (pre : Stream) × (post : Stream) × (stream ≡ pre ++ (l ++ post))

-- So it is for every parent, at every point of the log.
abbrev pub FromStreams : Setup → List Stream → Log → Type 0
FromStreams c streams [] = Unit {0}
FromStreams c streams (e ∷ past) =
    FromStreams c streams past × ((p : ℕ) → p < parents_of c → InStream (taken p (e ∷ past)) (slice_index_or streams p []))

-- A record was accepted.
abbrev pub Accepted : Frame → Log → Type 0
Accepted f [] = ⊥
Accepted f (hear p x t r ∷ past) = Accepted f past
Accepted f (loss p r ∷ past) = Accepted f past
Accepted f (recorded g r ∷ past) = ((accepted r ≡ true) × (f ≡ g)) ⊎ Accepted f past
Accepted f (framed k r k' ∷ past) = Accepted f past

-- Accepted records of one number are equal, within and between the logs.
abbrev pub OneRecordEach : Log → Log → Type 0
OneRecordEach A B = (f g : Frame) → Accepted f A ⊎ Accepted f B → Accepted g A ⊎ Accepted g B → f.number ≡ g.number → f ≡ g

-- A frame call of the log added frame f and put these packets into its carrier.
abbrev pub Put : Event → ℕ → List Bytes → Type 0
Put (hear p x t r) f ps = ⊥
Put (loss p r) f ps = ⊥
Put (recorded g r) f ps = ⊥
Put (framed k (skipped g) k') f ps = ⊥
Put (framed k (followed g n) k') f ps = ⊥
Put (framed k (added g n) k') f ps = (g ≡ f) × (k'.packets ≡ k.packets ++ ps)
Put (framed k (refused_frame n) k') f ps = ⊥

abbrev pub Shows : Log → ℕ → List Bytes → Type 0
Shows [] f ps = ⊥
Shows (e ∷ past) f ps = Put e f ps ⊎ Shows past f ps

-- Two sites of one configuration, each with its own memory, heard the same streams and were given the same records.
pub record Alike (c : Setup) (streams : List Stream) (A B : Log) : Type 0 where
  pub rise : StreamsRise c streams
  pub first_hears : FromStreams c streams A
  pub second_hears : FromStreams c streams B
  pub records : OneRecordEach A B

-- Then what both add under one number is equal, whatever each lost and when, and whatever its carrier held.
abbrev pub EqualFrames : Type 0
EqualFrames =
    (c : Setup) (memory₁ memory₂ : ℕ) (A B : Log) (s₁ s₂ : State) (streams : List Stream) →
    Checked c → Leads c memory₁ A s₁ → Leads c memory₂ B s₂ → Alike c streams A B →
    (f : ℕ) (ps qs : List Bytes) → Shows A f ps → Shows B f qs → ps ≡ qs
