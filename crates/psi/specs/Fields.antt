-- Numbers of more than 8 bits below flags, in two bytes. Where the lowest flag counts 2 ^ k in the first byte, a number has k + 8 bits.
use Rattle.std.specs.Prelude.{ℕ, ◌+◌, ◌*◌, ◌/◌, ◌%◌}

-- the number below the flags
abbrev pub number_in : ℕ → ℕ → ℕ → ℕ
number_in flag high low = high % flag * 0x100 + low

-- the first byte: flags above the high bits of a number
abbrev pub flags_byte : ℕ → ℕ → ℕ → ℕ
flags_byte flag flags n = flags * flag + n / 0x100 % flag
