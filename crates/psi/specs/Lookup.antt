-- The map row that a parent's packet falls under.
use Rattle.std.specs.Prelude.{◌≡◌, ℕ, suc, ◌<◌, Bool, true, cond, ◌&&◌, List, [], ◌∷◌, length, Some, None, Option, ◌==◌}
use Rattle.std.specs.Option.{option_map}
use Rattle.std.specs.List.{HoldsAt}
use Rattle.config.specs.declared.row.Row.{Row}

-- the row is for this parent's packets of this PID
abbrev pub fits : ℕ → ℕ → Row → Bool
fits parent pid row = row.parent == parent && row.pid == pid

-- one row further down the table
abbrev pub further : ℕ × Row → ℕ × Row
further found = (suc found.0, found.1)

-- the first row that fits, with its number
abbrev pub find_row : List Row → ℕ → ℕ → Option (ℕ × Row)
find_row [] parent pid = None
find_row (row ∷ rows) parent pid = cond (fits parent pid row) (Some (0, row)) (option_map further (find_row rows parent pid))

-- its number
unfoldable pub row_of : List Row → ℕ → ℕ → Option ℕ
row_of rows parent pid = option_map (λ (found : ℕ × Row). found.0) (find_row rows parent pid)

-- the PID that its packets leave with
unfoldable pub out_of : List Row → ℕ → ℕ → Option ℕ
out_of rows parent pid = option_map (λ (found : ℕ × Row). found.1.out) (find_row rows parent pid)

-- No other row fits: each that does is the one that was found.
abbrev pub Alone : List Row → ℕ → ℕ → Option ℕ → Type 0
Alone rows parent pid found = (k : ℕ) → k < length rows → HoldsAt (λ row. fits parent pid row ≡ true) rows k → found ≡ Some k
