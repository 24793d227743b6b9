-- What waits in a memory: the backlog, and the line of each parent. Assumes nothing.
use Rattle.std.specs.Prelude.{◌≡◌, ℕ, ◌+◌, ◌-◌, ◌*◌, ◌/◌, ◌<◌, ◌≤◌, min, List, [], ◌∷◌, length, take, drop, vec_items, vec_len, slice_index_or}
use Rattle.waiting.specs.Waiting.{waits}
use Rattle.waiting.specs.declared.Line.{Line}
use Rattle.memory.specs.declared.Memory.{Memory}

module _ {T : Type 0} where
  -- How many slots there are.
  unfoldable pub entries_in : Memory T → ℕ
  entries_in m = vec_len m.slots

  -- How many of them, the first, are the backlog's.
  unfoldable pub size_in : Memory T → ℕ
  size_in m = min m.size (vec_len m.slots)

  -- How many parents have a line.
  unfoldable pub parents_in : Memory T → ℕ
  parents_in m = min m.parents (length m.lines)

  -- How many slots each of those lines has: the slots behind the backlog's are shared out evenly.
  unfoldable pub room_in : Memory T → ℕ
  room_in m = min 4096 ((entries_in m - size_in m) / parents_in m)

  -- Where the slots of line p begin.
  unfoldable pub start_in : Memory T → ℕ → ℕ
  start_in m p = size_in m + p * room_in m

  -- What waits in each of some lines, whose slots lie one behind the other, `room` for each.
  unfoldable pub side_by_side : ℕ → List (Line T) → List T → List (List T)
  side_by_side room [] slots = []
  side_by_side room (line ∷ lines) slots = waits line (take room slots) ∷ side_by_side room lines (drop room slots)

  -- What waits in the line of each parent, in the order of the parents.
  unfoldable pub lines_in : Memory T → List (List T)
  lines_in m = side_by_side (room_in m) (take (parents_in m) m.lines) (drop (size_in m) (vec_items m.slots))

  -- What waits in the line of parent p, oldest first: nothing where p has no line.
  unfoldable pub line_in : Memory T → ℕ → List T
  line_in m p = slice_index_or (lines_in m) p []

  -- What waits in the backlog, oldest first.
  unfoldable pub backlog_in : Memory T → List T
  backlog_in m = waits m.backlog (take (size_in m) (vec_items m.slots))

  -- There is a line p, one of four at most, and its slots are those from `from` on, up to `to`.
  pub record Region (m : Memory T) (p from to : ℕ) : Type 0 where
    pub line : p < parents_in m
    pub of_four : p < 4
    pub begins : from ≡ start_in m p
    pub ends : to ≡ from + room_in m
    pub within : to ≤ vec_len m.slots

  -- The memory is shared out as it was: a fact of before and after, which each call states, and no invariant of one memory could.
  pub record SameShares (m m' : Memory T) : Type 0 where
    pub entries : entries_in m' ≡ entries_in m
    pub size : size_in m' ≡ size_in m
    pub parents : parents_in m' ≡ parents_in m
    pub room : room_in m' ≡ room_in m

  -- A change in nothing but the lines: the backlog waits as it did.
  pub record OnlyLines (m m' : Memory T) : Type 0 where
    pub backlog : backlog_in m' ≡ backlog_in m
    pub shares : SameShares m m'

  -- A change in nothing but the backlog: the lines wait as they did.
  pub record OnlyBacklog (m m' : Memory T) : Type 0 where
    pub lines : lines_in m' ≡ lines_in m
    pub shares : SameShares m m'
