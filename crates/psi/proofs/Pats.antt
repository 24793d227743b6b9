-- The entries of a PAT row by row, its packet, and what a reader finds in it.
use Rattle.std.proofs.Common.{◌≡◌, ℕ, suc, ◌+◌, ◌-◌, ◌*◌, ◌/◌, ◌%◌, ◌<◌, ◌≤◌, cond, List, [], ◌∷◌, ◌++◌, length, take, replicate, refl, ap, ◌∙◌, append_assoc, suc-le-suc, zero-le, arith, length-append}
use Rattle.std.specs.List.{count_by}
use Rattle.std.proofs.lemmas.List.{take_at}
use Rattle.std.proofs.lemmas.List.Recursion.{is_sum_by}
use Rattle.config.specs.declared.row.Row.{Row}
use Rattle.config.specs.declared.row.Kind.{Kind}
use Rattle.config.specs.declared.row.Kind.TheVariants.{Pass, Pmt}
use Rattle.config.specs.Rows.{is_pmt, pmts, most_service, RowsInRange}
use Rattle.psi.specs.Packet.{Bytes, pid_in, pid_high, filled, Framed}
use Rattle.psi.specs.Crc.{sealed, four_bytes, crc_of}
use Rattle.psi.specs.Sections.{length_in, length_high, with_length, closed}
use Rattle.psi.proofs.Crcs.{length_sealed}
use Rattle.psi.proofs.Packets.{filled_long}
use Rattle.psi.specs.Pat.{program_entry, programs, pat_section, pat_packet, pairs, pairs_of, services}

-- the `pmt` rows, as a count of the rows that pass a test
pub pmts_counted : (rows : List Row) → pmts rows ≡ count_by (λ row. is_pmt row.kind) rows
pmts_counted rows = is_sum_by pmts (λ row. cond (is_pmt row.kind) 1 0) refl (λ _ _. refl) rows

-- what is written of a PAT packet, once its section is closed
pub closed_pat : (b3 high low : ℕ) (ps : Bytes) → closed (0x47 ∷ 0x40 ∷ 0x00 ∷ b3 ∷ 0x00 ∷ 0x00 ∷ 0xB0 ∷ 0x00 ∷ high ∷ low ∷ 0xC1 ∷ 0x00 ∷ 0x00 ∷ ps)
    ≡ 0x47 ∷ 0x40 ∷ 0x00 ∷ b3 ∷ 0x00 ∷ sealed (0x00 ∷ length_high 0xB0 (length ps + 9) ∷ (length ps + 9) % 0x100 ∷ high ∷ low ∷ 0xC1 ∷ 0x00 ∷ 0x00 ∷ ps)
unfolding closed with_length
closed_pat b3 high low ps =
    let n : suc (suc (suc (suc (suc (suc (suc (suc (length ps)))))))) + 1 ≡ length ps + 9 = omega arith in
    ap (λ (m : ℕ). 0x47 ∷ 0x40 ∷ 0x00 ∷ b3 ∷ 0x00 ∷ sealed (0x00 ∷ length_high 0xB0 m ∷ m % 0x100 ∷ high ∷ low ∷ 0xC1 ∷ 0x00 ∷ 0x00 ∷ ps)) n

entry_length : (k : Kind) (e : Bytes) → length e ≡ 4 → length (cond (is_pmt k) e []) ≡ 4 * cond (is_pmt k) 1 0
entry_length Pass e h = refl
entry_length Pmt e h = h

-- each entry has four bytes
pub length_programs : (rows : List Row) → length (programs rows) ≡ 4 * pmts rows
length_programs [] = refl
length_programs (row ∷ rows) =
    length-append (cond (is_pmt row.kind) (program_entry row) []) (programs rows)
    ∙ (let e = entry_length row.kind (program_entry row) refl in let es = length_programs rows in omega arith)

-- the packet has 188 bytes
pub pat_framed : (counter tsid : ℕ) (rows : List Row) → pmts rows ≤ 42 → Framed (pat_packet counter tsid rows)
unfolding pat_packet filled
pat_framed counter tsid rows few =
    let n = length_programs rows in
    let m = length_sealed (pat_section tsid rows) in
    record { long = filled_long (0x47 ∷ 0x40 ∷ 0x00 ∷ (0x10 + counter) ∷ 0x00 ∷ sealed (pat_section tsid rows)) (omega arith); sync = refl }

-- numbers that fit their fields
abbrev Fitting : List Row → Type 0
Fitting [] = Unit {0}
Fitting (row ∷ rows) = ((row.service < 0x10000) × (row.out < 0x2000)) × Fitting rows

least : (k : Kind) (n : ℕ) → n ≤ most_service k → n < 0x10000
least Pass n h = omega arith
least Pmt n h = omega arith

fitting : (rows : List Row) → RowsInRange rows → Fitting rows
fitting [] range = tt
fitting (row ∷ rows) range =
    let own = range row (0, suc-le-suc zero-le, (λ d. refl)) in
    ((least row.kind row.service own.2.1, omega (arith, own.1.1)), fitting rows (λ r has. range r (suc has.0, suc-le-suc has.1, (λ d. has.2 d))))

pair : (k : Kind) (row : Row) (rest : Bytes) → row.service < 0x10000 → row.out < 0x2000
    → pairs (cond (is_pmt k) (program_entry row) [] ++ rest) ≡ cond (is_pmt k) ((row.service, row.out) ∷ []) [] ++ pairs rest
pair Pass row rest hs ho = refl
pair Pmt row rest hs ho =
    let service : row.service / 0x100 % 0x100 * 0x100 + row.service % 0x100 ≡ row.service = omega arith in
    let out : pid_in (pid_high 0xE0 row.out) (row.out % 0x100) ≡ row.out = omega arith in
    λ i. (service i, out i) ∷ pairs rest

read : (rows : List Row) → Fitting rows → pairs (programs rows) ≡ services rows
read [] fit = refl
read (row ∷ rows) fit =
    pair row.kind row (programs rows) fit.0.0 fit.0.1 ∙ ap (λ l. cond (is_pmt row.kind) ((row.service, row.out) ∷ []) [] ++ l) (read rows fit.1)

-- a reader finds the services
pub pat_reads : (counter tsid : ℕ) (rows : List Row) → pmts rows ≤ 42 → RowsInRange rows → pairs_of (pat_packet counter tsid rows) ≡ services rows
unfolding pat_packet filled sealed
pat_reads counter tsid rows few range =
    let n = length_programs rows in
    let ps = programs rows in
    let section = 0x00 ∷ length_high 0xB0 (length ps + 9) ∷ (length ps + 9) % 0x100 ∷ tsid / 0x100 % 0x100 ∷ tsid % 0x100 ∷ 0xC1 ∷ 0x00 ∷ 0x00 ∷ ps in
    let count : length_in (length_high 0xB0 (length ps + 9)) ((length ps + 9) % 0x100) - 9 ≡ length ps = omega arith in
    let rest = replicate (188 - length (0x47 ∷ 0x40 ∷ 0x00 ∷ (0x10 + counter) ∷ 0x00 ∷ sealed section)) 0xFF in
    ap (λ (m : ℕ). pairs (take m ((ps ++ four_bytes (crc_of section)) ++ rest))) count
    ∙ ap (λ l. pairs (take (length ps) l)) (append_assoc ps (four_bytes (crc_of section)) rest)
    ∙ ap pairs (take_at ps (four_bytes (crc_of section) ++ rest) (length ps) refl)
    ∙ read rows (fitting rows range)
