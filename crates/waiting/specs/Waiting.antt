-- What waits in a line, oldest first, and what letting go of the front leaves. Assumes nothing.
use Rattle.std.specs.Prelude.{ℕ, ◌+◌, cond, List, [], ◌∷◌, ◌++◌, take, drop, Some, None, filter, Option, nat_le, nat_lt}
use Rattle.waiting.specs.declared.Line.{Line}

module _ {T : Type 0} where
  -- The slots as they come round from slot k: those from k to the last, then those before k.
  -- Where no slot has the number k, the round begins at slot 0.
  unfoldable pub turned : ℕ → List T → List T
  turned k slots = drop k slots ++ take k slots

  -- The elements that wait, oldest first: round from the line's first slot, as many as it counts, and at most one in each slot.
  unfoldable pub waits : Line T → List T → List T
  waits line slots = take line.count (turned line.first slots)

  -- The line with one more counted.
  abbrev pub one_more : Line T → Line T
  one_more line = record { first = line.first; count = line.count + 1; kind = line.kind }

  -- The element that has waited longest, if any waits.
  abbrev pub oldest : List T → Option T
  oldest [] = None
  oldest (x ∷ xs) = Some x

  -- What is left when those at the front go while their moment is before `since`.
  abbrev pub from_on : (T → ℕ) → ℕ → List T → List T
  from_on moment since [] = []
  from_on moment since (x ∷ xs) = cond (nat_lt (moment x) since) (from_on moment since xs) (x ∷ xs)

  -- All whose moment is `since` or later, wherever they stand.
  abbrev pub not_before : (T → ℕ) → ℕ → List T → List T
  not_before moment since xs = filter (λ x. nat_le since (moment x)) xs
