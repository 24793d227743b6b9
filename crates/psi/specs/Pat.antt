-- The PAT: a program association section of ISO/IEC 13818-1 that lists the services of the map, in one packet.
use Rattle.std.specs.Prelude.{ℕ, ◌+◌, ◌-◌, ◌*◌, ◌/◌, ◌%◌, cond, List, [], ◌∷◌, ◌++◌, length, take, drop}
use Rattle.config.specs.declared.row.Row.{Row}
use Rattle.config.specs.Rows.{is_pmt}
use Rattle.config.specs.Setup.{Setup}
use Rattle.psi.specs.Packet.{Bytes, pid_in, pid_high, filled}
use Rattle.psi.specs.Crc.{sealed}
use Rattle.psi.specs.Sections.{length_high, section_length}

-- program_number, three reserved ones and program_map_PID
abbrev pub program_entry : Row → Bytes
program_entry row = row.service / 0x100 % 0x100 ∷ row.service % 0x100 ∷ pid_high 0xE0 row.out ∷ row.out % 0x100 ∷ []

-- the entries: one for each `pmt` row, in row order
abbrev pub programs : List Row → Bytes
programs [] = []
programs (row ∷ rows) = cond (is_pmt row.kind) (program_entry row) [] ++ programs rows

-- The section, but for its CRC: table_id 0; section_syntax_indicator 1, a zero bit, reserved ones and section_length;
-- transport_stream_id; reserved ones, version_number 0, current_next_indicator 1; section_number and last_section_number 0; the entries.
abbrev pub pat_section : ℕ → List Row → Bytes
pat_section tsid rows =
    let n : ℕ = length (programs rows) + 9 in
    0x00 ∷ length_high 0xB0 n ∷ n % 0x100 ∷ tsid / 0x100 % 0x100 ∷ tsid % 0x100 ∷ 0xC1 ∷ 0x00 ∷ 0x00 ∷ programs rows

-- The packet: PID 0, payload start, payload only, the counter, pointer 0, the section with its CRC, and 0xFF to the end.
unfoldable pub pat_packet : ℕ → ℕ → List Row → Bytes
pat_packet counter tsid rows = filled (0x47 ∷ 0x40 ∷ 0x00 ∷ (0x10 + counter) ∷ 0x00 ∷ sealed (pat_section tsid rows))

-- PAT copy i of frame f
unfoldable pub pat_copy : Setup → ℕ → ℕ → Bytes
pat_copy c f i = pat_packet ((f * c.copies + i) % 16) c.tsid c.rows

-- The entries of a PAT as pairs of program_number and program_map_PID.
abbrev pub pairs : Bytes → List (ℕ × ℕ)
pairs [] = []
pairs (a ∷ []) = []
pairs (a ∷ b ∷ []) = []
pairs (a ∷ b ∷ c ∷ []) = []
pairs (a ∷ b ∷ c ∷ d ∷ rest) = (a * 0x100 + b, pid_in c d) ∷ pairs rest

-- The pairs that a reader finds in a PAT packet: section_length says where they end, 8 bytes behind its start and 4 before its end.
abbrev pub pairs_of : Bytes → List (ℕ × ℕ)
pairs_of x = pairs (take (section_length (drop 5 x) - 9) (drop 13 x))

-- service and out of each `pmt` row, in row order
abbrev pub services : List Row → List (ℕ × ℕ)
services [] = []
services (row ∷ rows) = cond (is_pmt row.kind) ((row.service, row.out) ∷ []) [] ++ services rows
