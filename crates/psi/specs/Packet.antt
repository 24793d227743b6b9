-- Transport packets of ISO/IEC 13818-1: the fields of the head, good packets, stuffing, and a packet with another PID.
use Rattle.std.specs.Prelude.{◌≡◌, ℕ, ◌-◌, ◌/◌, ◌%◌, Bool, true, false, cond, ◌&&◌, List, ◌∷◌, ◌++◌, length, replicate, Some, None, Option, ◌==◌, nat_lt, slice_index, slice_set}
use Rattle.psi.specs.declared.packet.Adaptation.{Adaptation}
use Rattle.psi.specs.declared.packet.Adaptation.TheVariants.{Reserved, Payload, Field, Both}
use Rattle.psi.specs.declared.packet.Head.{Head}
use Rattle.psi.specs.Fields.{number_in, flags_byte}

abbrev pub Bytes : Type 0
Bytes = List ℕ

-- the byte at a place
abbrev pub byte : Bytes → ℕ → ℕ
byte x k = slice_index x k

-- a packet that may be heard: 188 bytes, the sync byte first, transport_error_indicator clear
unfoldable pub good_packet : Bytes → Bool
good_packet x = length x == 188 && (byte x 0 == 0x47 && nat_lt (byte x 1) 0x80)

-- what leaves is a packet: 188 bytes, the sync byte first
pub record Framed (x : Bytes) : Type 0 where
  pub long : length x ≡ 188
  pub sync : byte x 0 ≡ 0x47

-- payload_unit_start_indicator
abbrev pub start_of : Bytes → Bool
start_of x = byte x 1 / 0x40 % 2 == 1

-- the 13 bits of a PID below three others, in two bytes
abbrev pub pid_in : ℕ → ℕ → ℕ
pid_in high low = number_in 0x20 high low

abbrev pub pid_of : Bytes → ℕ
pid_of x = pid_in (byte x 1) (byte x 2)

-- transport_scrambling_control
abbrev pub scrambling_of : Bytes → ℕ
scrambling_of x = byte x 3 / 0x40

-- adaptation_field_control
abbrev pub adaptation_in : ℕ → Adaptation
adaptation_in control = cond (control == 0) Reserved (cond (control == 1) Payload (cond (control == 2) Field Both))

abbrev pub adaptation_of : Bytes → Adaptation
adaptation_of x = adaptation_in (byte x 3 / 0x10 % 4)

-- no adaptation field, and a payload
abbrev pub payload_only : Adaptation → Bool
payload_only Reserved = false
payload_only Payload = true
payload_only Field = false
payload_only Both = false

-- continuity_counter
abbrev pub counter_of : Bytes → ℕ
counter_of x = byte x 3 % 0x10

-- the head of a good packet; no other has one
abbrev pub head_of : Bytes → Option Head
head_of x =
    cond (good_packet x)
    (Some (record { start = start_of x; pid = pid_of x; scrambling = scrambling_of x; adaptation = adaptation_of x; counter = counter_of x }))
    None

-- three flags above the five high bits of a PID
abbrev pub pid_byte : ℕ → ℕ → ℕ
pid_byte flags pid = flags_byte 0x20 flags pid

-- a byte whose three high bits stay and whose five low bits are the high bits of a PID
abbrev pub pid_high : ℕ → ℕ → ℕ
pid_high old pid = pid_byte (old / 0x20) pid

-- the packet with another PID: only the 13 bits change
unfoldable pub with_pid : ℕ → Bytes → Bytes
with_pid pid x = slice_set (slice_set x 1 (pid_high (byte x 1) pid)) 2 (pid % 0x100)

-- stuffing: PID 8,191, payload only, counter 0, and each byte of the payload 0xFF
unfoldable pub stuffing : Bytes
stuffing = 0x47 ∷ 0x1F ∷ 0xFF ∷ 0x10 ∷ replicate 184 0xFF

-- bytes from the front of a packet on, and 0xFF in what is left
unfoldable pub filled : Bytes → Bytes
filled bs = bs ++ replicate (188 - length bs) 0xFF
