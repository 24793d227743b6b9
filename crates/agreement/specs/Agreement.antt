-- Frames that two sites added: where two frames differ, which frames both added, and from which number on those are equal. Assumes nothing.
use Rattle.std.specs.Prelude.{◌≡◌, ℕ, ◌+◌, ◌*◌, ◌<◌, ◌≤◌, Bool, true, ◌&&◌, not, List, take, drop, Some, None, vec_items, Contains, count_by, Option, ◌==◌, ◌≢◌, nat_lt}
use Rattle.std.specs.List.{list_any}
use Rattle.std.specs.Str.{bytes_eq}
use Rattle.agreement.specs.declared.Added.{Added}

-- the bytes of a frame's packets, end to end
abbrev pub packets_in : Added → List ℕ
packets_in x = vec_items x.packets

-- the packet in a slot, or what there is of it
abbrev pub slot : ℕ → List ℕ → List ℕ
slot k bytes = take 188 (drop (k * 188) bytes)

-- The first slot at which two frames differ; none where they are equal.
abbrev pub FirstDifference : List ℕ → List ℕ → Option ℕ → Type 0
FirstDifference x y None = x ≡ y
FirstDifference x y (Some s) = (slot s x ≢ slot s y) × ((k : ℕ) → k < s → slot k x ≡ slot k y)

-- The first byte at which two texts differ: they have the same i bytes in front, and not the same i + 1.
abbrev pub PartsAt : List ℕ → List ℕ → Option ℕ → Type 0
PartsAt x y None = x ≡ y
PartsAt x y (Some i) = (take i x ≡ take i y) × (take (i + 1) x ≢ take (i + 1) y)

-- whether some frame has this number
abbrev pub is_among : List Added → ℕ → Bool
is_among frames n = list_any (λ x. x.number == n) frames

-- how many frames of the first the second added too
abbrev pub common_in : List Added → List Added → ℕ
common_in first second = count_by (λ x. is_among second x.number) first

-- Two frames have one number and other packets; or, if they have one number, equal packets.
abbrev pub Differ : Added → Added → Type 0
Differ x y = (x.number ≡ y.number) × (packets_in x ≢ packets_in y)

abbrev pub Alike : Added → Added → Type 0
Alike x y = x.number ≡ y.number → packets_in x ≡ packets_in y

-- whether two frames do, as a test
abbrev pub differ_in : Added → Added → Bool
differ_in x y = x.number == y.number && not (bytes_eq (packets_in x) (packets_in y))

-- the same of one frame and some others
abbrev pub DiffersAmong : Added → List Added → Type 0
DiffersAmong x ys = (y : Added) × Contains ys y × Differ x y

abbrev pub AlikeAmong : Added → List Added → Type 0
AlikeAmong x ys = (y : Added) → Contains ys y → Alike x y

-- whether a number is lower than the lowest so far, if there is one
abbrev pub lower : ℕ → Option ℕ → Bool
lower n None = true
lower n (Some m) = nat_lt n m

module _ (first second : List Added) where
  -- Both added frame n.
  abbrev pub Common : ℕ → Type 0
  Common n = (x : Added) × (y : Added) × Contains first x × Contains second y × (x.number ≡ n) × (y.number ≡ n)

  -- Every frame numbered n or higher that both added is equal: each of the one's and each of the other's of that number.
  abbrev pub EqualOn : ℕ → Type 0
  EqualOn n = (x : Added) → Contains first x → n ≤ x.number → AlikeAmong x second

  -- Some frame numbered n or higher that both added differs.
  abbrev pub UnequalOn : ℕ → Type 0
  UnequalOn n = (x : Added) × Contains first x × (n ≤ x.number) × DiffersAmong x second

  -- The lowest number from which on all that both added is equal.
  abbrev pub EqualFrom : ℕ → Type 0
  EqualFrom m = EqualOn m × ((n : ℕ) → n < m → UnequalOn n)

  -- The lowest such number that both added; none where from each that both added on some frame differs.
  abbrev pub Agreed : Option ℕ → Type 0
  Agreed None = (n : ℕ) → Common n → UnequalOn n
  Agreed (Some f) = Common f × EqualOn f × ((n : ℕ) → n < f → Common n → UnequalOn n)
