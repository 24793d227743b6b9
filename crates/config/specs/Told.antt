-- The verdict on a text as it is told: as one number to C, and as a line.
use Rattle.std.specs.Prelude.{ℕ, ◌+◌, ◌*◌, ◌≤◌, ◌++◌, length, Ok, Err, codes, decimal, Result}
use Rattle.config.specs.declared.fault.TextRefusal.{TextRefusal}
use Rattle.config.specs.declared.fault.TextRefusal.TheVariants.{Names, Form, Range}
use Rattle.config.specs.declared.fault.ConfigFault.{ConfigFault}
use Rattle.config.specs.declared.fault.ConfigFault.TheVariants.{Text, Clash, Memory}
use Rattle.config.specs.Setup.{Setup}
use Rattle.config.specs.Text.{Bytes}

abbrev pub text_number : TextRefusal → ℕ
text_number Names = 1
text_number Form = 2
text_number Range = 3

-- the number of a refusal; want of memory has none
abbrev pub number : ConfigFault → ℕ
number (Text f) = text_number f.refusal
number (Clash line) = 4
number Memory = 0

-- the line that a refusal names, and its field
abbrev pub line : ConfigFault → ℕ
line (Text f) = f.line
line (Clash n) = n
line Memory = 0

abbrev pub field : ConfigFault → ℕ
field (Text f) = f.field
field (Clash n) = 0
field Memory = 0

-- what C gets for want of memory
abbrev pub no_memory : ℕ
no_memory = 4_294_967_295

-- what C gets for a refusal
abbrev pub packed_fault : ConfigFault → ℕ
packed_fault (Text f) = text_number f.refusal * 10_000_000 + f.line * 100 + f.field
packed_fault (Clash n) = 40_000_000 + n * 100
packed_fault Memory = no_memory

-- what C gets for a text
abbrev pub packed : Result Setup ConfigFault → ℕ
packed (Ok s) = 0
packed (Err f) = packed_fault f

-- what is told of a refusal is small enough for its number to fit 32 bits, and to be unlike the number for want of memory
abbrev pub Small : ConfigFault → Type 0
Small f = (number f ≤ 4) × (line f ≤ 16_385) × (field f ≤ 5)

-- the line that is printed for a text
abbrev pub ok_line : ℕ → ℕ → Bytes
ok_line parents rows = codes "ok parents " ++ (decimal parents ++ (codes " rows " ++ decimal rows))

abbrev pub refused_line : ℕ → ℕ → ℕ → Bytes
refused_line refusal at column =
    codes "refused " ++ (decimal refusal ++ (codes " line " ++ (decimal at ++ (codes " field " ++ decimal column))))

abbrev pub shown : Result Setup ConfigFault → Bytes
shown (Ok s) = ok_line (length s.rates) (length s.rows)
shown (Err f) = refused_line (number f) (line f) (field f)
