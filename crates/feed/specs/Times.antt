-- Times of a parent's packets, in 27 MHz ticks.
use Rattle.std.specs.Prelude.{ℕ, ◌+◌, ◌-◌, ◌%◌, ◌^◌, min, cond, Some, None, Option, ◌==◌}
use Rattle.rules.specs.Times.{after}

-- a number, or the largest of 64 bits where it does not fit
abbrev pub capped : ℕ → ℕ
capped n = min n (2 ^ 64 - 1)

-- the time that packet i of a plain file is handed with, where packet 0 arrives at `first`: each thousandth has one
abbrev pub handed_with : ℕ → ℕ → ℕ → Option ℕ
handed_with first rate i = cond (i % 1000 == 0) (Some (capped (first + after rate i))) None

-- how many ticks a stamp of 30 bits is further on than the last, round the end
abbrev pub further : ℕ → ℕ → ℕ
further last stamp = (stamp + 2 ^ 30 - last % 2 ^ 30) % 2 ^ 30

-- the time of a packet with this stamp, from the time and the stamp before it
abbrev pub unwrapped : ℕ → ℕ → ℕ → ℕ
unwrapped before last stamp = capped (before + further last stamp)
