-- What must stand at each line of a configuration text, and what is wrong with a line that does not fit its place.
-- A line is told by the number of lines before it. A fault counts lines and fields from 1, and its field is 0 where the line is wrong as a whole.
use Rattle.std.specs.Prelude.{ℕ, suc, ◌+◌, ◌-◌, max, cond, ◌&&◌, ◌||◌, List, [], ◌∷◌, map, length, take, drop, Some, None, codes, Option, ◌==◌, nat_le, nat_lt, slice_index_or}
use Rattle.std.specs.List.{slice_get}
use Rattle.std.specs.Option.{option_or, option_map}
use Rattle.std.specs.Str.{bytes_eq}
use Rattle.config.specs.declared.fault.TextRefusal.{TextRefusal}
use Rattle.config.specs.declared.fault.TextRefusal.TheVariants.{Names, Form, Range}
use Rattle.config.specs.declared.fault.TextFault.{TextFault}
use Rattle.config.specs.declared.row.Row.{Row}
use Rattle.config.specs.declared.row.Settings.{Settings}
use Rattle.config.specs.declared.row.Kind.{Kind}
use Rattle.config.specs.declared.row.Kind.TheVariants.{Pass, Pmt}
use Rattle.config.specs.Rows.{is_pmt, pmts, least_service, most_service}
use Rattle.config.specs.Setup.{Setup, setup_from}
use Rattle.config.specs.Text.{Bytes, fields, number, written}

-- ## Fields

-- A rule says what is wrong with a field, if anything.
abbrev pub Rule : Type 0
Rule = Bytes → Option TextRefusal

abbrev pub range_wrong : ℕ → ℕ → Option ℕ → Option TextRefusal
range_wrong low high None = Some Form
range_wrong low high (Some n) = cond (nat_le low n && nat_le n high) None (Some Range)

-- a number from low to high
unfoldable pub within : ℕ → ℕ → Rule
within low high field = range_wrong low high (number field)

-- one of the two words
unfoldable pub kind_word : Rule
kind_word field = cond (bytes_eq field (codes "pass") || bytes_eq field (codes "pmt")) None (Some Form)

-- which of them
unfoldable pub kind : Bytes → Kind
kind field = cond (bytes_eq field (codes "pass")) Pass Pmt

-- field k of a line, from 0
abbrev pub field_at : Bytes → ℕ → Bytes
field_at line k = slice_index_or (fields line) k []

-- ## Faults

abbrev pub fault : TextRefusal → ℕ → ℕ → TextFault
fault refusal line field = record { refusal = refusal; line = line; field = field }

-- a text of more bytes than may be
abbrev pub too_long : Bytes → Option TextFault
too_long text = cond (nat_lt 16_384 (length text)) (Some (fault Names 0 0)) None

-- ## Lines of values

-- the leftmost field that breaks its rule, where the first is field k of line n
abbrev pub leftmost : ℕ → ℕ → List Rule → List Bytes → Option TextFault
leftmost n k [] fs = None
leftmost n k (r ∷ rs) [] = None
leftmost n k (r ∷ rs) (f ∷ fs) = option_or (option_map (λ refusal. fault refusal n k) (r f)) (leftmost n (suc k) rs fs)

-- what is wrong with line n, which should have one field for each rule
unfoldable pub values_wrong : ℕ → List Rule → Bytes → Option TextFault
values_wrong n rules line =
    cond (length (fields line) == length rules) (leftmost n 1 rules (fields line)) (Some (fault Form n 0))

-- ticks, backlog, copies, tsid
abbrev pub settings_rules : List Rule
settings_rules = within 10_000 40_000_000 ∷ within 1 1_024 ∷ within 1 16 ∷ within 0 65_535 ∷ []

-- parent i is numbered i; then its rate
abbrev pub parent_rules : ℕ → List Rule
parent_rules i = within i i ∷ within 100_000 100_000_000 ∷ []

-- parent, pid, out, kind, and a service as that kind has it
abbrev pub row_rules : Kind → List Rule
row_rules k =
    within 0 3 ∷ within 0 8_190 ∷ within 32 8_190 ∷ kind_word ∷ within (least_service k) (most_service k) ∷ []

-- the settings and the rate that a line writes
unfoldable pub settings_of : Bytes → Settings
settings_of line = record {
  ticks = written (field_at line 0);
  backlog = written (field_at line 1);
  copies = written (field_at line 2);
  tsid = written (field_at line 3);
}

unfoldable pub rate_of : Bytes → ℕ
rate_of line = written (field_at line 1)

-- the map row that a line writes
unfoldable pub row_of : Bytes → Row
row_of line = record {
  parent = written (field_at line 0);
  pid = written (field_at line 1);
  out = written (field_at line 2);
  kind = kind (field_at line 3);
  service = written (field_at line 4);
}

-- ## Places

-- A line's place in the text. A table's lines are counted from 0, and a map row also knows how many rows before it are `pmt`.
pub data Place : Type 0 where
  names : Bytes → Place
  settings : Place
  gap : Place
  parent : ℕ → Place
  map_row : ℕ → ℕ → Place

-- line i of a table of 1 to `most` lines: what is wrong before its fields are looked at, and else with them
abbrev pub table_line : ℕ → ℕ → ℕ → Bytes → Option TextFault → Option TextFault
table_line n most i line in_fields =
    cond (nat_le most i || (i == 0 && length line == 0)) (Some (fault Range n 0)) in_fields

-- what is wrong with line n at its place, where m rows before it are `pmt`
abbrev pub row_wrong : ℕ → ℕ → Bytes → Option TextFault
row_wrong n m line =
    option_or
    (values_wrong n (row_rules (row_of line).kind) line)
    (cond (is_pmt (row_of line).kind && nat_le 42 m) (Some (fault Range n 0)) None)

unfoldable pub line_wrong : ℕ → Place → Bytes → Option TextFault
line_wrong n (names words) line = cond (bytes_eq line words) None (Some (fault Names n 0))
line_wrong n settings line = table_line n 1 0 line (values_wrong n settings_rules line)
line_wrong n gap line = cond (length line == 0) None (Some (fault Range n 0))
line_wrong n (parent i) line = table_line n 4 i line (values_wrong n (parent_rules i) line)
line_wrong n (map_row i m) line = table_line n 64 i line (row_wrong n m line)

-- what is wrong with a text that ends where line n would stand
unfoldable pub end_wrong : ℕ → Place → Option TextFault
end_wrong n (names words) = Some (fault Names n 0)
end_wrong n settings = Some (fault Range n 0)
end_wrong n gap = Some (fault Names n 0)
end_wrong n (parent i) = Some (fault Range n 0)
end_wrong n (map_row i m) = cond (i == 0) (Some (fault Range n 0)) None

-- ## The text as a whole, by its lines

-- how many lines come before the first empty one
abbrev pub filled : List Bytes → ℕ
filled [] = 0
filled ([] ∷ ls) = 0
filled ((b ∷ bs) ∷ ls) = suc (filled ls)

-- How many lines the second table has: they begin behind its names, which are the fourth line, and go on to an empty line. The first of them has to be there.
unfoldable pub parents : List Bytes → ℕ
parents ls = max 1 (filled (drop 4 ls))

-- the map: what stands behind the names of the third table
unfoldable pub map_rows : List Bytes → List Row
map_rows ls = map row_of (drop (6 + parents ls) ls)

unfoldable pub place : List Bytes → ℕ → Place
place ls n =
    cond (n == 0) (names (codes "ticks backlog copies tsid"))
    (cond (n == 1) settings
    (cond (n == 2) gap
    (cond (n == 3) (names (codes "parent rate"))
    (cond (nat_lt n (4 + parents ls)) (parent (n - 4))
    (cond (n == 4 + parents ls) gap
    (cond (n == 5 + parents ls) (names (codes "parent pid out kind service"))
    (map_row (n - (6 + parents ls)) (pmts (take (n - (6 + parents ls)) (map_rows ls))))))))))

-- what is wrong at line n, or at the end of the text in its place
abbrev pub wrong_at : ℕ → Place → Option Bytes → Option TextFault
wrong_at n p None = end_wrong n p
wrong_at n p (Some line) = line_wrong n p line

unfoldable pub fault_at : List Bytes → ℕ → Option TextFault
fault_at ls n = wrong_at (suc n) (place ls n) (slice_get ls n)

-- the configuration that a text without faults writes
unfoldable pub setup_of : List Bytes → Setup
setup_of ls = setup_from (settings_of (slice_index_or ls 1 [])) (map rate_of (take (parents ls) (drop 4 ls))) (map_rows ls)
