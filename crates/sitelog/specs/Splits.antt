-- The words of a line that are left, taken as exactly so many.
use Rattle.std.specs.Prelude.{◌≡◌, ℕ, List, [], ◌∷◌, length, Some, None, Ok, Err, Option, Result, ◌≢◌}
use Rattle.std.specs.Borrow.{Bor}
use Rattle.config.specs.Text.{Bytes, fields}
use Rattle.sitelog.specs.declared.fault.LineFault.{LineFault}
use Rattle.sitelog.specs.declared.fault.LineFault.TheVariants.{FieldCount}
use Rattle.sitelog.specs.declared.words.Words.{Words}

abbrev pub words_in : Option (Bor Bytes) → List Bytes
words_in None = []
words_in (Some rest) = fields rest.now

-- the words that have not been read
abbrev pub left : Words → List Bytes
left w = words_in w.rest

-- not so many words
abbrev pub OtherThan : ℕ → List Bytes → LineFault → Type 0
OtherThan n ws fault = (fault ≡ FieldCount) × (length ws ≢ n)

abbrev pub NoMore : List Bytes → Result (Unit {0}) LineFault → Type 0
NoMore ws (Ok done) = ws ≡ []
NoMore ws (Err fault) = OtherThan 0 ws fault

abbrev pub One : List Bytes → Result (Bor Bytes) LineFault → Type 0
One ws (Ok a) = ws ≡ a.now ∷ []
One ws (Err fault) = OtherThan 1 ws fault

abbrev pub Two : List Bytes → Result (Bor Bytes × Bor Bytes) LineFault → Type 0
Two ws (Ok a) = ws ≡ a.0.now ∷ a.1.now ∷ []
Two ws (Err fault) = OtherThan 2 ws fault

abbrev pub Three : List Bytes → Result (Bor Bytes × Bor Bytes × Bor Bytes) LineFault → Type 0
Three ws (Ok a) = ws ≡ a.0.now ∷ a.1.now ∷ a.2.now ∷ []
Three ws (Err fault) = OtherThan 3 ws fault
