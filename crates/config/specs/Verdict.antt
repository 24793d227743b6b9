-- What the check answers to a text: the configuration that it writes, or its first fault.
use Rattle.std.specs.Prelude.{◌≡◌, ℕ, zero, suc, ◌+◌, Bool, cond, ◌&&◌, ◌||◌, List, length, take, Some, None, Ok, Err, Option, Result, ◌==◌, nat_le, nat_lt}
use Rattle.std.specs.List.{slice_get, list_any}
use Rattle.std.specs.Option.{option_or}
use Rattle.config.specs.declared.fault.TextFault.{TextFault}
use Rattle.config.specs.declared.fault.ConfigFault.{ConfigFault}
use Rattle.config.specs.declared.fault.ConfigFault.TheVariants.{Text, Clash, Memory}
use Rattle.config.specs.declared.row.Row.{Row}
use Rattle.config.specs.declared.table.Config.{Config}
use Rattle.config.specs.Setup.{Setup, setup}
use Rattle.config.specs.Text.{Bytes, lines}
use Rattle.config.specs.Layout.{too_long, fault_at, parents, setup_of}

-- the first of n answers, from that at k on, that is one
abbrev pub first : {X : Type 0} → (ℕ → Option X) → ℕ → ℕ → Option X
first f k zero = None
first f k (suc n) = option_or (f k) (first f (suc k) n)

-- two rows share a pair of parent and pid, an out, or a service above 0
abbrev pub shares : Row → Row → Bool
shares r s =
    (r.parent == s.parent && r.pid == s.pid)
    || (r.out == s.out || (nat_lt 0 r.service && r.service == s.service))

abbrev pub any_shares : Row → List Row → Bool
any_shares r others = list_any (shares r) others

-- row i, by its number, if it names a parent that is not one of so many or shares with a row before it
abbrev pub clash_of : ℕ → List Row → ℕ → Option Row → Option ℕ
clash_of listed rows i None = None
clash_of listed rows i (Some r) = cond (nat_le listed r.parent || any_shares r (take i rows)) (Some i) None

unfoldable pub clash_at : ℕ → List Row → ℕ → Option ℕ
clash_at listed rows i = clash_of listed rows i (slice_get rows i)

unfoldable pub first_clash : ℕ → List Row → Option ℕ
first_clash listed rows = first (clash_at listed rows) 0 (length rows)

-- A text whose lines all fit their places is refused at its first clash. The map's first row is the seventh line where the second table has none.
abbrev pub unless_clash : List Bytes → Option ℕ → Result Setup ConfigFault
unless_clash ls None = Ok (setup_of ls)
unless_clash ls (Some i) = Err (Clash (7 + parents ls + i))

-- the first line that is wrong, and clashes last of all
abbrev pub unless_fault : List Bytes → Option TextFault → Result Setup ConfigFault
unless_fault ls (Some f) = Err (Text f)
unless_fault ls None = unless_clash ls (first_clash (length (setup_of ls).rates) (setup_of ls).rows)

-- The end of the text counts as a line: it may stand in the place of one.
unfoldable pub verdict : Bytes → Result Setup ConfigFault
verdict text =
    unless_fault (lines text) (option_or (too_long text) (first (fault_at (lines text)) 0 (suc (length (lines text)))))

-- r is the answer to a text. Want of memory is the one answer that says nothing of it.
abbrev pub Answers : Bytes → Result Config ConfigFault → Type 0
Answers text (Ok c) = verdict text ≡ Ok (setup c)
Answers text (Err (Text f)) = verdict text ≡ Err (Text f)
Answers text (Err (Clash line)) = verdict text ≡ Err (Clash line)
Answers text (Err Memory) = Unit {0}
