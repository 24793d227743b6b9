-- Worked cases: what the definitions come to on numbers that can be checked by hand.
use Rattle.std.specs.Prelude.{◌≡◌, ℕ, ◌+◌, ◌<◌, cond, List, [], ◌∷◌, ◌++◌, map, length, replicate, Some, None}
use Rattle.config.specs.Setup.{Setup}
use Rattle.psi.specs.Packet.{Bytes, counter_of, stuffing, with_pid}
use Rattle.psi.specs.Pat.{pat_copy}
use Rattle.carrier.specs.Folds.{left_out, fold_of}
use Rattle.carrier.specs.Meaning.{Meaning}
use Rattle.rules.specs.Entries.{Entry}
use Rattle.rules.specs.Slots.{Frame, pat, payload, Turn, limit, turns, played, dropped, turn_doubt, doubt, reaches_zero}
use Rattle.rules.specs.State.{Hearing, State, following, parent_at, line_room}
use Rattle.rules.specs.Times.{after}
use Rattle.rules.specs.Calls.{HearAnswer, passed_over, dropped_it, held_it, refused_hear, Good, Hears, step_after, followed, added, anew, queued}
use Rattle.rules.specs.Log.{Log, hear, recorded, framed, Leads}

-- A setup with one parent of 40,000,000 bits per second and no map rows.
abbrev pub example : ℕ → ℕ → ℕ → Setup
example ticks backlog copies = record { ticks = ticks; backlog = backlog; copies = copies; tsid = 1; rates = 40_000_000 ∷ []; rows = [] }

abbrev pub frame_of : ℕ → ℕ → ℕ → Frame
frame_of number start slots = record { number = number; start = start; slots = slots }

-- a packet that waits
abbrev pub waits : ℕ → Bytes → Entry
waits arrival bytes = record { arrival = arrival; row = 0; bytes = bytes }

-- a packet is taken if it is not refused
abbrev pub Taken : HearAnswer → Type 0
Taken passed_over = Unit {0}
Taken dropped_it = Unit {0}
Taken held_it = Unit {0}
Taken (refused_hear n) = ⊥

-- the doubt after each slot
abbrev pub doubts : ℕ → List Turn → ℕ → List ℕ
doubts q [] d = []
doubts q (t ∷ ts) d = turn_doubt q t d ∷ doubts q ts (turn_doubt q t d)

-- A frame length of 2,700,000 ticks and seven slots, from 0 on.
abbrev pub seven_slots : List Entry → List Turn
seven_slots es = turns (example 2_700_000 4 2) (frame_of 5 0 7) es

-- A backlog of two, one PAT copy and four slots; limits 675,000, 1,350,000, 2,025,000 and 2,700,000.
abbrev pub four_slots : List Entry → List Turn
four_slots es = turns (example 2_700_000 2 1) (frame_of 1 0 4) es

-- The same with a backlog of one.
abbrev pub narrow : Setup
narrow = example 2_700_000 1 1

-- A site to which nothing comes but a packet without a map row, first at 0 and then at the end of the second frame.
abbrev pub quiet_log : Bytes → Meaning → Meaning → Log
quiet_log x k k' =
    framed k (added 2 0) k'
    ∷ framed k (followed 1 0) k
    ∷ hear 0 x (Some 5_400_000) passed_over
    ∷ recorded (frame_of 2 2_700_000 4) queued
    ∷ recorded (frame_of 1 0 4) anew
    ∷ hear 0 x (Some 0) passed_over
    ∷ []

-- such a packet, and a carrier with four places that takes a PAT copy and stuffing
abbrev pub unmapped_packet : Bytes
unmapped_packet = stuffing

abbrev pub four_places : Meaning
four_places = record { packets = []; free = 4; capacity = 4 }

abbrev pub four_taken : Meaning
four_taken = record { packets = pat_copy (example 2_700_000 2 1) 2 0 ∷ stuffing ∷ stuffing ∷ stuffing ∷ []; free = 0; capacity = 4 }

-- the bytes of a folded carrier with so much stuffing pending, to which these packets are put
abbrev pub folded_by : ℕ → List Bytes → Bytes
folded_by pending [] = []
folded_by pending (x ∷ xs) = fold_of x pending ++ folded_by (cond (left_out x pending) (pending + 1) 0) xs

-- a packet of PID 512
abbrev pub packet_512 : Bytes
packet_512 = with_pid 512 stuffing

pub record WorkedCases : Type 0 where
  -- At 40,000,000 bits per second and an anchor at 1,000 the first packet arrives at 2,015 and the fifth at 6,076.
  pub first_arrives : 1_000 + after 40_000_000 1 ≡ 2_015
  pub fifth_arrives : 1_000 + after 40_000_000 5 ≡ 6_076
  -- The 100,000th packet after an anchor is taken, if its line has room.
  pub last_counted :
      (c : Setup) (memory : ℕ) (s s' : State) (p : ℕ) (x : Bytes) (h : Hearing) (r : HearAnswer) →
      Good c memory p x → parent_at s p ≡ Some h → h.count ≡ 99_999 → length h.line < line_room c memory →
      Hears c memory s p x None r s' → Taken r
  -- The next one without a time is refused with 8.
  pub one_too_many :
      (c : Setup) (memory : ℕ) (s s' : State) (p : ℕ) (x : Bytes) (h : Hearing) (r : HearAnswer) →
      Good c memory p x → parent_at s p ≡ Some h → h.count ≡ 100_000 →
      Hears c memory s p x None r s' → r ≡ refused_hear 8
  -- Frame length 2,700,000, seven slots, start 0: slot 0 admits before 385,714 and slot 6 before 2,700,000.
  pub first_limit : limit (example 2_700_000 4 2) (frame_of 5 0 7) 0 ≡ 385_714
  pub last_limit : limit (example 2_700_000 4 2) (frame_of 5 0 7) 6 ≡ 2_700_000
  -- So a packet that arrives at 385,713 is admitted by slot 0, and one that arrives at 385,714 by slot 1.
  pub at_limit : (x y : Bytes) → map (λ t. t.admits) (seven_slots (waits 385_713 x ∷ waits 385_714 y ∷ []))
      ≡ (waits 385_713 x ∷ []) ∷ (waits 385_714 y ∷ []) ∷ [] ∷ [] ∷ [] ∷ [] ∷ [] ∷ []
  -- Two PAT copies in seven slots: slots 0 and 3.
  pub pat_slots : map (λ t. t.use_is) (seven_slots []) ≡ pat 0 ∷ payload ∷ payload ∷ pat 1 ∷ payload ∷ payload ∷ payload ∷ []
  -- Their continuity counters: 10 and 11 in frame 5, 0 and 1 in frame 8.
  pub counters_in_5 : map (λ i. counter_of (pat_copy (example 2_700_000 4 2) 5 i)) (0 ∷ 1 ∷ []) ≡ 10 ∷ 11 ∷ []
  pub counters_in_8 : map (λ i. counter_of (pat_copy (example 2_700_000 4 2) 8 i)) (0 ∷ 1 ∷ []) ≡ 0 ∷ 1 ∷ []
  -- Backlog of two, four slots, one copy, no packets: the doubt is 0 after slot 2, and the next frame is added.
  pub doubt_falls : doubts 2 (four_slots []) 2 ≡ 2 ∷ 1 ∷ 0 ∷ 0 ∷ []
  pub next_added : (s : State) × Leads (example 2_700_000 2 1) 3 (quiet_log unmapped_packet four_places four_taken) s
  -- The same with one packet arriving for each data slot: the doubt is 1 after each, and following goes on.
  pub doubt_stays : (x y z : Bytes) → doubts 2 (four_slots (waits 700_000 x ∷ waits 1_400_000 y ∷ waits 2_100_000 z ∷ [])) 2 ≡ 2 ∷ 1 ∷ 1 ∷ 1 ∷ []
  pub goes_on : (x y z : Bytes) →
      let ts : List Turn = four_slots (waits 700_000 x ∷ waits 1_400_000 y ∷ waits 2_100_000 z ∷ []) in
      step_after (reaches_zero 2 ts 2) (doubt 2 ts 2) ≡ following 1
  -- A backlog of one and three packets for slot 1: the earliest goes, two are dropped.
  pub earliest_goes : (x y z : Bytes) → played narrow 1 (four_slots (waits 700_000 x ∷ waits 700_001 y ∷ waits 700_002 z ∷ [])) []
      ≡ pat_copy narrow 1 0 ∷ x ∷ stuffing ∷ stuffing ∷ []
  pub two_dropped : (x y z : Bytes) → dropped 1 (four_slots (waits 700_000 x ∷ waits 700_001 y ∷ waits 700_002 z ∷ [])) [] ≡ 2
  -- Folded, 256 stuffing packets and then one of PID 512 are 378 bytes: the 256th stuffing packet with count 255, and the other with count 0.
  pub folds_so : folded_by 0 (replicate 256 stuffing ++ packet_512 ∷ []) ≡ (stuffing ++ 255 ∷ []) ++ (packet_512 ++ 0 ∷ [])
  pub folds_to : length (folded_by 0 (replicate 256 stuffing ++ packet_512 ∷ [])) ≡ 378
