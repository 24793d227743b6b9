-- Two sites, as an example of all that the second law asks for: one lost its parent for a while, the other was switched on later.
-- Both add frame 4, and equal packets.
use Rattle.std.specs.Prelude.{ℕ, ◌*◌, List, [], ◌∷◌, replicate, Some, None}
use Rattle.config.specs.declared.row.Kind.TheVariants.{Pass}
use Rattle.config.specs.Setup.{Setup}
use Rattle.psi.specs.Packet.{Bytes, stuffing, with_pid}
use Rattle.psi.specs.Pat.{pat_copy}
use Rattle.carrier.specs.Meaning.{Meaning}
use Rattle.rules.specs.Slots.{Frame}
use Rattle.rules.specs.State.{State, Checked}
use Rattle.rules.specs.Calls.{held_it, lost, anew, queued, skipped, followed, added, refused_frame}
use Rattle.rules.specs.Log.{hear, loss, recorded, framed, Log, Leads}
use Rattle.rules.specs.Laws.{Stream, Alike, Shows}

-- Frames of 10,000 ticks, a backlog of one, one PAT copy, one parent of 100,000,000 bits per second, PID 256 to 512.
abbrev pub site : Setup
site =
    record {
      ticks = 10_000;
      backlog = 1;
      copies = 1;
      tsid = 7;
      rates = 100_000_000 ∷ [];
      rows = record { parent = 0; pid = 256; out = 512; kind = Pass; service = 0 } ∷ [];
    }

-- a packet of PID 256 with this byte all through its payload
abbrev pub packet : ℕ → Bytes
packet n = 0x47 ∷ 0x01 ∷ 0x00 ∷ 0x10 ∷ replicate 184 n

-- Frame n starts at n × 10,000 and has three slots.
abbrev pub frame : ℕ → Frame
frame n = record { number = n; start = n * 10_000; slots = 3 }

-- The parent's stream: eight packets, of which the seventh has no time.
abbrev pub stream : Stream
stream =
    (packet 1, Some 9_000)
    ∷ (packet 2, Some 15_000)
    ∷ (packet 3, Some 21_000)
    ∷ (packet 4, Some 27_000)
    ∷ (packet 5, Some 33_000)
    ∷ (packet 6, Some 41_000)
    ∷ (packet 7, None)
    ∷ (packet 8, Some 52_000)
    ∷ []

-- What both put into their carriers as frame 4: its data slots take packet 6 and stuffing; packet 7, which finds the backlog full, is dropped.
abbrev pub frame_four : List Bytes
frame_four = pat_copy site 4 0 ∷ with_pid 512 (packet 6) ∷ stuffing ∷ []

-- entries of waiting memory
abbrev pub lost_memory : ℕ
lost_memory = 5

abbrev pub late_memory : ℕ
late_memory = 4

-- an empty carrier of three places, and one of ten that holds a packet already
abbrev pub small : List Bytes → ℕ → Meaning
small ps free = record { packets = ps; free = free; capacity = 3 }

abbrev pub large : List Bytes → ℕ → Meaning
large ps free = record { packets = stuffing ∷ ps; free = free; capacity = 10 }

-- The newest event stands first: read upwards.

-- This site follows frame 1, loses its parent during frame 2, skips frame 2, follows frame 3 and adds frame 4.
abbrev pub lost_log : Log
lost_log =
    framed (small [] 3) (added 4 1) (small frame_four 0)
    ∷ hear 0 (packet 8) (Some 52_000) held_it
    ∷ hear 0 (packet 7) None held_it
    ∷ recorded (frame 4) queued
    ∷ framed (small [] 3) (followed 3 0) (small [] 3)
    ∷ hear 0 (packet 6) (Some 41_000) held_it
    ∷ framed (small [] 3) (refused_frame 13) (small [] 3)
    ∷ framed (small [] 3) (skipped 2) (small [] 3)
    ∷ hear 0 (packet 5) (Some 33_000) held_it
    ∷ recorded (frame 3) queued
    ∷ hear 0 (packet 4) (Some 27_000) held_it
    ∷ loss 0 lost
    ∷ recorded (frame 2) queued
    ∷ framed (small [] 3) (followed 1 0) (small [] 3)
    ∷ hear 0 (packet 3) (Some 21_000) held_it
    ∷ hear 0 (packet 2) (Some 15_000) held_it
    ∷ recorded (frame 1) anew
    ∷ hear 0 (packet 1) (Some 9_000) held_it
    ∷ []

-- This site is switched on later, with less memory and another carrier: it follows frame 3 and adds frame 4.
abbrev pub late_log : Log
late_log =
    framed (large [] 9) (added 4 1) (large frame_four 8)
    ∷ hear 0 (packet 8) (Some 52_000) held_it
    ∷ hear 0 (packet 7) None held_it
    ∷ recorded (frame 4) queued
    ∷ framed (large [] 9) (followed 3 0) (large [] 9)
    ∷ hear 0 (packet 6) (Some 41_000) held_it
    ∷ hear 0 (packet 5) (Some 33_000) held_it
    ∷ hear 0 (packet 4) (Some 27_000) held_it
    ∷ recorded (frame 3) anew
    ∷ []

pub record TwoSites : Type 0 where
  pub checked : Checked site
  -- both logs are complete
  pub lost_leads : (s : State) × Leads site lost_memory lost_log s
  pub late_leads : (s : State) × Leads site late_memory late_log s
  -- they hear the same stream and are given the same records
  pub alike : Alike site (stream ∷ []) lost_log late_log
  -- both show frame 4 added, with these packets
  pub lost_adds : Shows lost_log 4 frame_four
  pub late_adds : Shows late_log 4 frame_four
