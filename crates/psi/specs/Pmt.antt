-- The PMT: a program map section of ISO/IEC 13818-1 in one packet, as a shape; how it is written and read, and patching on the shape.
use Rattle.std.specs.Prelude.{◌≡◌, ℕ, zero, suc, ◌+◌, ◌-◌, ◌*◌, ◌/◌, ◌%◌, ◌^◌, Bool, cond, ◌&&◌, List, [], ◌∷◌, ◌++◌, length, take, drop, Some, None, Option, MatchOption, ◌==◌, nat_le}
use Rattle.std.specs.List.{flat_map}
use Rattle.std.specs.Option.{option_map, unwrap_or}
use Rattle.config.specs.declared.row.Row.{Row}
use Rattle.psi.specs.Crc.{crc_of, sealed}
use Rattle.psi.specs.Lookup.{out_of}
use Rattle.psi.specs.Packet.{Bytes, byte, good_packet, start_of, scrambling_of, adaptation_of, payload_only, counter_of, pid_in, pid_of, pid_byte, filled}
use Rattle.psi.specs.Sections.{length_in, length_byte, section_length}

-- One elementary stream of a service.
pub record Stream : Type 0 where
  -- stream_type
  pub type : ℕ
  -- three reserved bits, and elementary_PID below them
  pub pid_flags : ℕ
  pub pid : ℕ
  -- four reserved bits above ES_info_length, and the descriptors that it counts
  pub info_flags : ℕ
  pub info : Bytes

-- A program map section. What is not here follows from the rest (section_length, the two other lengths, CRC_32)
-- or has one value: table_id 2, section_number 0, last_section_number 0.
pub record Section : Type 0 where
  -- section_syntax_indicator, a zero bit and two reserved bits
  pub flags : ℕ
  -- program_number
  pub program : ℕ
  -- two reserved bits, version_number, current_next_indicator
  pub version : ℕ
  -- three reserved bits, and PCR_PID below them
  pub pcr_flags : ℕ
  pub pcr : ℕ
  -- four reserved bits above program_info_length, and the descriptors that it counts
  pub info_flags : ℕ
  pub info : Bytes
  pub streams : List Stream

-- A packet that holds one: payload start, unscrambled, payload only, pointer 0.
pub record Pmt : Type 0 where
  -- transport_priority
  pub priority : ℕ
  pub pid : ℕ
  -- continuity_counter
  pub counter : ℕ
  pub section : Section

-- How the shape is written.

abbrev pub stream_bytes : Stream → Bytes
stream_bytes e =
    e.type
    ∷ pid_byte e.pid_flags e.pid
    ∷ e.pid % 0x100
    ∷ length_byte e.info_flags (length e.info)
    ∷ length e.info % 0x100
    ∷ e.info

-- what section_length counts, but for the CRC
abbrev pub section_body : Section → Bytes
section_body s =
    s.program / 0x100 % 0x100
    ∷ s.program % 0x100
    ∷ s.version
    ∷ 0x00
    ∷ 0x00
    ∷ pid_byte s.pcr_flags s.pcr
    ∷ s.pcr % 0x100
    ∷ length_byte s.info_flags (length s.info)
    ∷ length s.info % 0x100
    ∷ (s.info ++ flat_map stream_bytes s.streams)

-- with table_id, section_length and CRC
unfoldable pub section_bytes : Section → Bytes
section_bytes s =
    let n : ℕ = length (section_body s) + 4 in
    sealed (0x02 ∷ length_byte s.flags n ∷ n % 0x100 ∷ section_body s)

-- the packet up to the end of its section
unfoldable pub pmt_bytes : Pmt → Bytes
pmt_bytes p =
    0x47
    ∷ pid_byte (2 + p.priority) p.pid
    ∷ p.pid % 0x100
    ∷ (0x10 + p.counter)
    ∷ 0x00
    ∷ section_bytes p.section

-- How it is read.

-- ES_info_length, and how many bytes a stream takes with it
abbrev pub stream_length : Bytes → ℕ
stream_length bs = 5 + length_in (byte bs 3) (byte bs 4)

-- the stream at the front of some bytes
abbrev pub stream_of : Bytes → Stream
stream_of bs =
    record {
      type = byte bs 0;
      pid_flags = byte bs 1 / 0x20;
      pid = pid_in (byte bs 1) (byte bs 2);
      info_flags = byte bs 3 / 0x10;
      info = take (length_in (byte bs 3) (byte bs 4)) (drop 5 bs);
    }

-- The streams that fill some bytes exactly, if there are such, and at most so many.
abbrev pub streams_in : ℕ → Bytes → Option (List Stream)
streams_in most [] = Some []
streams_in zero (b ∷ bs) = None
streams_in (suc most) (b ∷ bs) =
    cond (nat_le (stream_length (b ∷ bs)) (length (b ∷ bs)))
    (option_map (λ es. stream_of (b ∷ bs) ∷ es) (streams_in most (drop (stream_length (b ∷ bs)) (b ∷ bs))))
    None

unfoldable pub streams_of : Bytes → Option (List Stream)
streams_of bs = streams_in (length bs) bs

-- program_info_length
abbrev pub info_length : Bytes → ℕ
info_length s = length_in (byte s 10) (byte s 11)

-- Some bytes begin with the fixed part of a section that lies whole in them: table_id, section_syntax_indicator,
-- a section_length of 13 to 180, the two section numbers, and program descriptors that fit before the CRC.
unfoldable pub fixed_part : Bytes → Bool
fixed_part bs =
    (byte bs 0 == 0x02)
    && (nat_le 0x80 (byte bs 1)
    && (nat_le 13 (section_length bs)
    && (nat_le (section_length bs) 180
    && (nat_le (section_length bs + 3) (length bs)
    && (byte bs 6 == 0x00
    && (byte bs 7 == 0x00
    && nat_le (info_length bs + 13) (section_length bs)))))))

-- the section but for its CRC
abbrev pub before_crc : Bytes → Bytes
before_crc bs = take (section_length bs - 1) bs

-- CRC_32, the last four bytes
abbrev pub crc_field : Bytes → ℕ
crc_field bs =
    let k : ℕ = section_length bs - 1 in
    byte bs k * 2 ^ 24 + byte bs (k + 1) * 2 ^ 16 + byte bs (k + 2) * 2 ^ 8 + byte bs (k + 3)

abbrev pub right_crc : Bytes → Bool
right_crc bs = crc_of (before_crc bs) == crc_field bs

-- the section whose bytes but for the CRC are s, with these streams
abbrev pub section_with : Bytes → List Stream → Section
section_with s streams =
    record {
      flags = byte s 1 / 0x10;
      program = byte s 3 * 0x100 + byte s 4;
      version = byte s 5;
      pcr_flags = byte s 8 / 0x20;
      pcr = pid_in (byte s 8) (byte s 9);
      info_flags = byte s 10 / 0x10;
      info = take (info_length s) (drop 12 s);
      streams = streams;
    }

-- the part of it that the streams fill
abbrev pub stream_part : Bytes → Bytes
stream_part s = drop (12 + info_length s) s

-- the section that some bytes begin with
unfoldable pub section_of : Bytes → Option Section
section_of bs =
    cond (fixed_part bs && right_crc bs)
    (option_map (section_with (before_crc bs)) (streams_of (stream_part (before_crc bs))))
    None

-- a good packet with payload start, unscrambled, payload only and pointer 0
unfoldable pub opens : Bytes → Bool
opens x =
    good_packet x && (start_of x && (scrambling_of x == 0 && (payload_only (adaptation_of x) && byte x 4 == 0x00)))

abbrev pub pmt_with : Bytes → Section → Pmt
pmt_with x s = record { priority = byte x 1 / 0x20 % 2; pid = pid_of x; counter = counter_of x; section = s }

-- The PMT in a packet; only a patchable packet has one.
unfoldable pub pmt_of : Bytes → Option Pmt
pmt_of x = cond (opens x) (option_map (pmt_with x) (section_of (drop 5 x))) None

-- How it is patched.

-- PCR_PID where no row has it
abbrev pub no_pcr : ℕ
no_pcr = 8_191

-- a stream with another PID; it goes where no row has it
abbrev pub moved : Option ℕ → Stream → List Stream
moved None e = []
moved (Some out) e = record { type = e.type; pid_flags = e.pid_flags; pid = out; info_flags = e.info_flags; info = e.info } ∷ []

-- each stream under the PID that it leaves with
abbrev pub moved_all : List Row → ℕ → List Stream → List Stream
moved_all rows parent [] = []
moved_all rows parent (e ∷ es) = moved (out_of rows parent e.pid) e ++ moved_all rows parent es

-- After writing these streams behind what stood there, each under the PID that it leaves with; the answer is None where there are none to write,
-- since the bytes are no streams, and then nothing is said of what stands there.
abbrev pub StreamsWritten : List Row → ℕ → Bytes → Option (List Stream) → Bytes → Option (Unit {0}) → Type 0
StreamsWritten rows parent before streams after answer =
    MatchOption streams (answer ≡ None) (λ es. (answer ≡ Some tt) × (after ≡ before ++ flat_map stream_bytes (moved_all rows parent es)))

abbrev pub patch_section : List Row → Row → Section → Section
patch_section rows row s =
    record {
      flags = s.flags;
      program = row.service;
      version = s.version;
      pcr_flags = s.pcr_flags;
      pcr = unwrap_or (out_of rows row.parent s.pcr) no_pcr;
      info_flags = s.info_flags;
      info = s.info;
      streams = moved_all rows row.parent s.streams;
    }

-- The same of the bytes s of a section, but for its CRC. Its section_length is still the old one.
abbrev pub SectionWritten : List Row → Row → Bytes → Bytes → Bytes → Option (Unit {0}) → Type 0
SectionWritten rows row before s after answer =
    MatchOption (streams_of (stream_part s)) (answer ≡ None)
    (λ es. (answer ≡ Some tt) × (after ≡ before ++ (0x02 ∷ byte s 1 ∷ byte s 2 ∷ section_body (patch_section rows row (section_with s es)))))

abbrev pub patch_pmt : List Row → Row → Pmt → Pmt
patch_pmt rows row p =
    record { priority = p.priority; pid = row.out; counter = p.counter; section = patch_section rows row p.section }

-- A packet under a `pmt` row as it leaves: patched, and 0xFF behind the section.
unfoldable pub patched : List Row → Row → Bytes → Option Bytes
patched rows row x = option_map (λ (p : Pmt). filled (pmt_bytes (patch_pmt rows row p))) (pmt_of x)
