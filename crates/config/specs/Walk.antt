-- How far a text has been found right, for the functions that read it part by part.
use Rattle.std.specs.Prelude.{◌≡◌, ℕ, suc, ◌<◌, ◌≤◌, List, map, length, take, drop, Some, None, Ok, Err, Result}
use Rattle.config.specs.declared.fault.ConfigFault.{ConfigFault}
use Rattle.config.specs.declared.fault.ConfigFault.TheVariants.{Text, Clash, Memory}
use Rattle.config.specs.declared.fault.TextFault.{TextFault}
use Rattle.config.specs.declared.reader.Reader.{Reader}
use Rattle.config.specs.declared.row.Row.{Row}
use Rattle.config.specs.Layout.{fault_at, parents, rate_of, map_rows}
use Rattle.config.specs.Reading.{text_lines}
use Rattle.config.specs.Rows.{RatesInRange, RowsCounted, RowsInRange}
use Rattle.config.specs.Text.{Bytes}

-- none of the first n lines is wrong
abbrev pub Right : List Bytes → ℕ → Type 0
Right ls n = (k : ℕ) → k < n → fault_at ls k ≡ None

-- f is the first fault
pub record First (ls : List Bytes) (f : TextFault) : Type 0 where
  pub at : ℕ
  pub inside : at ≤ length ls
  pub before : Right ls at
  pub here : fault_at ls at ≡ Some f

-- the reader has k lines of the text behind it, none of them wrong
pub record At (ls : List Bytes) (r : Reader) (k : ℕ) : Type 0 where
  pub text : text_lines r ≡ ls
  pub line : r.line ≡ k
  pub inside : k ≤ length ls
  pub right : Right ls k

-- The text was read up to line k, and so much is said of what was read; or the first fault was met.
abbrev pub Reads : {V : Type 0} → List Bytes → Reader → ℕ → (V → Type 0) → Result V TextFault → Type 0
Reads ls r k says (Ok v) = At ls r k × says v
Reads ls r k says (Err f) = First ls f

-- what stopped the reading: the first fault, or want of memory
abbrev pub Stopped : List Bytes → ConfigFault → Type 0
Stopped ls (Text f) = First ls f
Stopped ls (Clash line) = ⊥
Stopped ls Memory = Unit {0}

-- the same where memory may be wanting
abbrev pub ReadsInMemory : {V : Type 0} → List Bytes → Reader → ℕ → (V → Type 0) → Result V ConfigFault → Type 0
ReadsInMemory ls r k says (Ok v) = At ls r k × says v
ReadsInMemory ls r k says (Err g) = Stopped ls g

-- the rates of the second table, all in their range
abbrev pub ParentsRead : List Bytes → List ℕ → Type 0
ParentsRead ls rates = (rates ≡ map rate_of (take (parents ls) (drop 4 ls))) × RatesInRange rates

-- the map rows of the third table, with which the text ends as it may, all in their ranges and not too many
abbrev pub RowsRead : List Bytes → List Row → Type 0
RowsRead ls rows = Right ls (suc (length ls)) × (rows ≡ map_rows ls) × RowsCounted rows × RowsInRange rows
