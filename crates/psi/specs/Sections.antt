-- Sections of ISO/IEC 13818-1: lengths of 12 bits, and the section_length and CRC that close one.
use Rattle.std.specs.Prelude.{ℕ, ◌+◌, ◌/◌, ◌%◌, ◌++◌, length, take, drop, slice_set}
use Rattle.psi.specs.Packet.{Bytes, byte}
use Rattle.psi.specs.Crc.{sealed}
use Rattle.psi.specs.Fields.{number_in, flags_byte}

-- a length of 12 bits below four others, in two bytes
abbrev pub length_in : ℕ → ℕ → ℕ
length_in high low = number_in 0x10 high low

-- four flags above the four high bits of a length
abbrev pub length_byte : ℕ → ℕ → ℕ
length_byte flags n = flags_byte 0x10 flags n

-- a byte whose four high bits stay and whose four low bits are the high bits of a length
abbrev pub length_high : ℕ → ℕ → ℕ
length_high old n = length_byte (old / 0x10) n

-- section_length: how many bytes of the section follow it
abbrev pub section_length : Bytes → ℕ
section_length s = length_in (byte s 1) (byte s 2)

-- A section that still lacks its CRC, with its section_length set: all but the first three bytes, and four for the CRC.
unfoldable pub with_length : Bytes → Bytes
with_length s = slice_set (slice_set s 1 (length_high (byte s 1) (length s + 1))) 2 ((length s + 1) % 0x100)

-- A packet's head and pointer, and behind them a section that is closed: with its section_length and its CRC.
unfoldable pub closed : Bytes → Bytes
closed bs = take 5 bs ++ sealed (with_length (drop 5 bs))
