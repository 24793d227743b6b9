-- CRC-32 as ISO/IEC 13818-1 has it, bit by bit: most significant bit first, a register that starts with all ones, no final inversion.
use Rattle.std.specs.Prelude.{◌≡◌, ℕ, ◌*◌, ◌/◌, ◌%◌, ◌^◌, ◌<◌, List, [], ◌∷◌, ◌++◌, length, bit_xor, slice_index}
use Rattle.std.specs.List.{fold}
use Rattle.psi.specs.Packet.{Bytes}

-- x³² + x²⁶ + x²³ + x²² + x¹⁶ + x¹² + x¹¹ + x¹⁰ + x⁸ + x⁷ + x⁵ + x⁴ + x² + x + 1, without its first term
abbrev pub polynomial : ℕ
polynomial = 0x04C11DB7

-- One bit comes, and the register of 32 bits moves up by one: where the bit that leaves differs from the bit that comes, the polynomial is added.
unfoldable pub crc_bit : ℕ → ℕ → ℕ
crc_bit register bit = bit_xor (register * 2 % 2 ^ 32) (bit_xor (register / 2 ^ 31) bit * polynomial)

-- the bit of a byte with this weight
abbrev pub bit_of : ℕ → ℕ → ℕ
bit_of weight b = b / weight % 2

-- The eight bits of a byte come, the highest first.
unfoldable pub crc_byte : ℕ → ℕ → ℕ
crc_byte register b =
    let r7 : ℕ = crc_bit register (bit_of 0x80 b) in
    let r6 : ℕ = crc_bit r7 (bit_of 0x40 b) in
    let r5 : ℕ = crc_bit r6 (bit_of 0x20 b) in
    let r4 : ℕ = crc_bit r5 (bit_of 0x10 b) in
    let r3 : ℕ = crc_bit r4 (bit_of 8 b) in
    let r2 : ℕ = crc_bit r3 (bit_of 4 b) in
    let r1 : ℕ = crc_bit r2 (bit_of 2 b) in
    crc_bit r1 (bit_of 1 b)

-- A table for whole bytes: at each place, what the place's number leaves of a register that holds it as the highest byte.
pub record Tabled (table : List ℕ) : Type 0 where
  pub entries : (k : ℕ) → k < length table → slice_index table k ≡ crc_byte (k * 2 ^ 24) 0

-- the register after some bytes
abbrev pub crc_from : ℕ → Bytes → ℕ
crc_from register bs = fold crc_byte register bs

unfoldable pub crc_of : Bytes → ℕ
crc_of bs = crc_from 0xFFFFFFFF bs

-- 32 bits in four bytes
abbrev pub four_bytes : ℕ → Bytes
four_bytes n = n / 2 ^ 24 % 2 ^ 8 ∷ n / 2 ^ 16 % 2 ^ 8 ∷ n / 2 ^ 8 % 2 ^ 8 ∷ n % 2 ^ 8 ∷ []

-- bytes with their CRC behind them
unfoldable pub sealed : Bytes → Bytes
sealed bs = bs ++ four_bytes (crc_of bs)
