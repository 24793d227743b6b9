-- Site logs: every call on one adapter from power-up on. What they tell is computed from them and the configuration, with no look inside the adapter.
use Rattle.std.specs.Prelude.{ℕ, ◌+◌, Bool, true, false, cond, ◌&&◌, ◌||◌, List, [], ◌∷◌, ◌++◌, Some, None, Option, ◌==◌, nat_le, nat_lt}
use Rattle.config.specs.Setup.{Setup}
use Rattle.psi.specs.Packet.{Bytes}
use Rattle.psi.specs.Delivery.{Delivery, unmapped, unpatchable, deliverable, deliver}
use Rattle.carrier.specs.Meaning.{Meaning}
use Rattle.rules.specs.Entries.{Entry, merged}
use Rattle.rules.specs.Slots.{Frame, Turn, end_of, turns, played, waiting, doubt, reaches_zero}
use Rattle.rules.specs.State.{State, power_up, rate_of}
use Rattle.rules.specs.Times.{after}
use Rattle.rules.specs.Calls.{HearAnswer, passed_over, dropped_it, held_it, refused_hear, LossAnswer, lost, refused_loss, RecordAnswer, anew, queued, refused_record, FrameAnswer, skipped, followed, added, refused_frame, Hears, Loses, Records, Frames}

-- A call with its arguments and its answer; a frame call has its carrier's meaning before and after it.
pub data Event : Type 0 where
  hear : ℕ → Bytes → Option ℕ → HearAnswer → Event
  loss : ℕ → LossAnswer → Event
  recorded : Frame → RecordAnswer → Event
  framed : Meaning → FrameAnswer → Meaning → Event

-- The newest event first, so that the log before a call is the tail.
abbrev pub Log : Type 0
Log = List Event

-- This event leads from one state to the next.
abbrev pub Took : Setup → ℕ → State → Event → State → Type 0
Took c memory s (hear p x t r) s' = Hears c memory s p x t r s'
Took c memory s (loss p r) s' = Loses c memory s p r s'
Took c memory s (recorded f r) s' = Records c memory s f r s'
Took c memory s (framed k r k') s' = Frames c memory s k r s' k'

-- The log is complete from power-up on, and the adapter is now in this state.
pub data Leads (c : Setup) (memory : ℕ) : Log → State → Type 0 where
  begins : Leads c memory [] (power_up c)
  next : {log : Log} {s s' : State} → Leads c memory log s → (e : Event) → Took c memory s e s' → Leads c memory (e ∷ log) s'

-- WHAT A LOG TELLS OF A PARENT

-- What an event is to one parent: nothing, a loss, or a packet that was taken, with its time or none, and whether it was answered held.
pub data News : Type 0 where
  nothing : News
  gone : News
  took : Bytes → Option ℕ → Bool → News

-- Refusals 7 and 8 are losses too.
abbrev pub losing : ℕ → Bool
losing n = n == 7 || n == 8

abbrev pub hear_news : Bytes → Option ℕ → HearAnswer → News
hear_news x t passed_over = took x t false
hear_news x t dropped_it = took x t false
hear_news x t held_it = took x t true
hear_news x t (refused_hear n) = cond (losing n) gone nothing

abbrev pub loss_news : LossAnswer → News
loss_news lost = gone
loss_news (refused_loss n) = nothing

abbrev pub news : ℕ → Event → News
news p (hear q x t r) = cond (q == p) (hear_news x t r) nothing
news p (loss q r) = cond (q == p) (loss_news r) nothing
news p (recorded f r) = nothing
news p (framed k r k') = nothing

-- The last anchor of a parent since its last loss, the packets taken after it, and when the last one arrived: its heard-to time.
pub record Tracked : Type 0 where
  pub anchor : ℕ
  pub count : ℕ
  pub heard_to : ℕ

-- when a packet arrives that is handed with this time or none
abbrev pub arrival : ℕ → Option Tracked → Option ℕ → ℕ
arrival rate k (Some a) = a
arrival rate None None = 0
arrival rate (Some k) None = k.anchor + after rate (k.count + 1)

abbrev pub tracked_on : ℕ → Option ℕ → Option Tracked → Option Tracked
tracked_on rate (Some a) k = Some (record { anchor = a; count = 0; heard_to = a })
tracked_on rate None None = None
tracked_on rate None (Some k) = Some (record { anchor = k.anchor; count = k.count + 1; heard_to = arrival rate (Some k) None })

abbrev pub tracked_by : ℕ → News → Option Tracked → Option Tracked
tracked_by rate nothing k = k
tracked_by rate gone k = None
tracked_by rate (took x t h) k = tracked_on rate t k

abbrev pub tracked : Setup → ℕ → Log → Option Tracked
tracked c p [] = None
tracked c p (e ∷ past) = tracked_by (rate_of c p) (news p e) (tracked c p past)

-- The packets answered held since the parent's last loss, the oldest first.
abbrev pub delivered : Delivery → ℕ → List Entry
delivered unmapped a = []
delivered unpatchable a = []
delivered (deliverable row bytes) a = record { arrival = a; row = row; bytes = bytes } ∷ []

abbrev pub held_by : Setup → ℕ → News → Option Tracked → List Entry → List Entry
held_by c p nothing k l = l
held_by c p gone k l = []
held_by c p (took x t false) k l = l
held_by c p (took x t true) k l = l ++ delivered (deliver c p x) (arrival (rate_of c p) k t)

abbrev pub held : Setup → ℕ → Log → List Entry
held c p [] = []
held c p (e ∷ past) = held_by c p (news p e) (tracked c p past) (held c p past)

-- WHAT A LOG TELLS OF RECORDS

abbrev pub accepted : RecordAnswer → Bool
accepted anew = true
accepted queued = true
accepted (refused_record n) = false

abbrev pub last_accepted : Log → Option Frame
last_accepted [] = None
last_accepted (hear p x t r ∷ past) = last_accepted past
last_accepted (loss p r ∷ past) = last_accepted past
last_accepted (recorded f r ∷ past) = cond (accepted r) (Some f) (last_accepted past)
last_accepted (framed k r k' ∷ past) = last_accepted past

-- the last accepted record of this number
abbrev pub record_of : ℕ → Log → Option Frame
record_of n [] = None
record_of n (hear p x t r ∷ past) = record_of n past
record_of n (loss p r ∷ past) = record_of n past
record_of n (recorded f r ∷ past) = cond (accepted r && f.number == n) (Some f) (record_of n past)
record_of n (framed k r k' ∷ past) = record_of n past

-- WHAT A LOG TELLS OF FRAMES

-- Of some packets, those that arrive from b on and before e.
abbrev pub within : ℕ → ℕ → List Entry → List Entry
within b e [] = []
within b e (x ∷ xs) = cond (nat_le b x.arrival && nat_lt x.arrival e) (x ∷ within b e xs) (within b e xs)

-- for each parent, from this one on
abbrev pub each_parent : Setup → ℕ → ℕ → Log → ℕ → List ℕ → List (List Entry)
each_parent c b e log p [] = []
each_parent c b e log p (rate ∷ rates) = within b e (held c p log) ∷ each_parent c b e log (p + 1) rates

-- The turns of a frame by the log: what was held and arrives during the frame, in one order, cut into its slots.
abbrev pub log_turns : Setup → Frame → Log → List Turn
log_turns c f log = turns c f (merged (each_parent c f.start (end_of c f) log 0 c.rates))

-- the same for the frame of a record, if there is one
abbrev pub turns_of : Setup → Option Frame → Log → List Turn
turns_of c None log = []
turns_of c (Some f) log = log_turns c f log

-- What an event is to the frames: nothing, an end of all that went before (a loss, a record anew, a skip), or one more frame placed.
pub data Effect : Type 0 where
  same : Effect
  blanks : Effect
  follows_on : ℕ → Effect
  adds_on : ℕ → Effect

abbrev pub news_effect : News → Effect
news_effect nothing = same
news_effect gone = blanks
news_effect (took x t h) = same

abbrev pub effect : Event → Effect
effect (hear p x t r) = news_effect (hear_news x t r)
effect (loss p r) = news_effect (loss_news r)
effect (recorded f anew) = blanks
effect (recorded f queued) = same
effect (recorded f (refused_record n)) = same
effect (framed k (skipped f) k') = blanks
effect (framed k (followed f n) k') = follows_on f
effect (framed k (added f n) k') = adds_on f
effect (framed k (refused_frame n) k') = same

-- The run: the frames followed or added since a loss, a record anew or a skip, the newest first, each with its turns.
pub record Placed : Type 0 where
  pub number : ℕ
  pub played_so : List Turn

abbrev pub run_by : Setup → Effect → Log → List Placed → List Placed
run_by c same past l = l
run_by c blanks past l = []
run_by c (follows_on f) past l = record { number = f; played_so = turns_of c (record_of f past) past } ∷ l
run_by c (adds_on f) past l = record { number = f; played_so = turns_of c (record_of f past) past } ∷ l

abbrev pub run : Setup → Log → List Placed
run c [] = []
run c (e ∷ past) = run_by c (effect e) past (run c past)

-- The tally of a log: what the doubt must be by the log. It is blank at power-up and after a loss, a record anew or a skip.
-- A followed frame makes a blank tally the size of the backlog, and then moves it slot by slot by the doubt's rule.
-- Once it was 0 after a slot it is clear, until it is blank again.
pub data Tally : Type 0 where
  blank : Tally
  count : ℕ → Tally
  clear : Tally

abbrev pub settled : ℕ → List Turn → ℕ → Tally
settled q ts d = cond (reaches_zero q ts d) clear (count (doubt q ts d))

abbrev pub moved : ℕ → List Turn → Tally → Tally
moved q ts blank = settled q ts q
moved q ts (count d) = settled q ts d
moved q ts clear = clear

abbrev pub tally_by : Setup → Effect → Log → Tally → Tally
tally_by c same past t = t
tally_by c blanks past t = blank
tally_by c (follows_on f) past t = moved c.backlog (turns_of c (record_of f past) past) t
tally_by c (adds_on f) past t = t

abbrev pub tally : Setup → Log → Tally
tally c [] = blank
tally c (e ∷ past) = tally_by c (effect e) past (tally c past)

-- What waits after the frames of the run.
abbrev pub backlog_after : ℕ → List Placed → List Entry
backlog_after q [] = []
backlog_after q (p ∷ l) = waiting q p.played_so (backlog_after q l)

abbrev pub backlog_of : Setup → Log → List Entry
backlog_of c log = backlog_after c.backlog (run c log)

-- The packets of a frame, by the log.
abbrev pub placement : Setup → Log → Frame → List Bytes
placement c log f = played c f.number (log_turns c f log) (backlog_of c log)

-- The last frame followed or added.
abbrev pub placed_by : Effect → Option ℕ → Option ℕ
placed_by same g = g
placed_by blanks g = g
placed_by (follows_on f) g = Some f
placed_by (adds_on f) g = Some f

abbrev pub last_placed : Log → Option ℕ
last_placed [] = None
last_placed (e ∷ past) = placed_by (effect e) (last_placed past)
