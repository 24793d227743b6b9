use Rattle.std.proofs.Common.{◌≡◌, ◌^◌, ◌<◌, true, drop}
use Rattle.config.specs.Text.{all_digits, written, written_after}
use Rattle.sitelog.proofs.values.value.Given as goal

-- digits are left, and with them the number so far becomes that of the word
abbrev pub invariant-loop-b : goal.invariant-loop-b
invariant-loop-b l = (all_digits (drop l.b-index l.word) ≡ true) × (written l.word ≡ written_after l.n (drop l.b-index l.word)) × (l.n < 2 ^ 64)
