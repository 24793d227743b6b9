use Rattle.std.proofs.Common.{◌≡◌, ◌-◌, length}
use Rattle.config.specs.Verdict.{first_clash, first, clash_at}
use Rattle.config.proofs.clash.find_clash.Given as goal

abbrev pub invariant-loop-i : goal.invariant-loop-i
invariant-loop-i l = first_clash l.listed l.rows ≡ first (clash_at l.listed l.rows) l.i (length l.rows - l.i)
