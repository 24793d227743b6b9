-- What the reader's functions answer, between the text's bytes and the layout.
use Rattle.std.specs.Prelude.{◌≡◌, ℕ, suc, ◌+◌, ◌-◌, ◌<◌, Bool, cond, ◌&&◌, List, [], length, drop, is_some, Some, None, Ok, Err, Option, Result, ◌==◌, nat_lt, slice_index_or}
use Rattle.std.specs.List.{slice_get}
use Rattle.std.specs.Option.{option_map}
use Rattle.config.specs.declared.fault.TextFault.{TextFault}
use Rattle.config.specs.declared.fault.TextRefusal.TheVariants.{Form}
use Rattle.config.specs.Layout.{Rule, Place, gap, parent, fault, wrong_at, rate_of, field_at}
use Rattle.config.specs.declared.fields.Fields.{Fields}
use Rattle.config.specs.declared.line.Line.{Line}
use Rattle.config.specs.declared.reader.Reader.{Reader}
use Rattle.config.specs.Text.{Bytes, lines, fields}
use Rattle.std.specs.Borrow.{Bor}

-- the value, unless something is wrong
abbrev pub unless : {E V : Type 0} → Option E → V → Result V E
unless None v = Ok v
unless (Some e) v = Err e

-- ## A text, line by line

abbrev pub text_lines : Reader → List Bytes
text_lines r = lines r.text.now

-- the line that comes next, if the text has not ended
abbrev pub next_line : Reader → Option Bytes
next_line r = slice_get (text_lines r) r.line

abbrev pub bytes_of : Line → Option Bytes
bytes_of l = option_map (λ x. x.now) l.bytes

-- l is the line that comes next, and s is the reader behind it
pub record Next (r : Reader) (l : Line) (s : Reader) : Type 0 where
  pub number : l.number ≡ suc r.line
  pub bytes : bytes_of l ≡ next_line r
  pub same : s.text.now ≡ r.text.now
  pub behind : s.line ≡ r.line + cond (is_some (next_line r)) 1 0

-- what is wrong with a line at a place
abbrev pub wrong : Line → Place → Option TextFault
wrong l p = wrong_at l.number p (bytes_of l)

-- what is read of a line, or of an empty one where the text has ended
abbrev pub of_line : {V : Type 0} → (Bytes → V) → Option Bytes → V
of_line f None = f []
of_line f (Some line) = f line

-- the second table has ended where its line i would be: behind the first, at an empty line or the end of the text
abbrev pub parents_end : ℕ → Option Bytes → Bool
parents_end i None = nat_lt 0 i
parents_end i (Some line) = nat_lt 0 i && length line == 0

abbrev pub parent_or_gap : ℕ → Option Bytes → Place
parent_or_gap i o = cond (parents_end i o) gap (parent i)

abbrev pub rate_or_none : ℕ → Option Bytes → Option ℕ
rate_or_none i o = cond (parents_end i o) None (Some (of_line rate_of o))

-- ## A line, field by field

abbrev pub fields_in : Option (Bor Bytes) → List Bytes
fields_in None = []
fields_in (Some rest) = fields rest.now

-- the fields that have not been read
abbrev pub left : Fields → List Bytes
left f = fields_in f.rest

abbrev pub next_field : Fields → Bytes
next_field f = slice_index_or (left f) 0 []

-- the next field is field k of its line, counted from 1
pub record IsNext (k : ℕ) (f : Fields) : Type 0 where
  pub counted : 0 < k
  pub rest : left f ≡ drop (k - 1) (fields f.bytes.now)

-- one field has been read
pub record Moved (f g : Fields) : Type 0 where
  pub rest : left g ≡ drop 1 (left f)
  pub same_line : g.line ≡ f.line
  pub same_bytes : g.bytes.now ≡ f.bytes.now

-- what is wrong with line n, which should have so many fields
abbrev pub count_wrong : ℕ → ℕ → Bytes → Option TextFault
count_wrong n count line = cond (length (fields line) == count) None (Some (fault Form n 0))

-- what is wrong with field k of line n, counted from 1, by a rule
abbrev pub field_wrong : ℕ → ℕ → Bytes → Rule → Option TextFault
field_wrong n k line rule = option_map (λ refusal. fault refusal n k) (rule (field_at line (k - 1)))
