use Rattle.std.proofs.Common.{◌≡◌, ◌+◌, ◌*◌, ◌++◌, drop}
use Rattle.config.specs.Rows.{pmts}
use Rattle.psi.specs.Pat.{programs}
use Rattle.psi.specs.Places.{written}
use Rattle.psi.proofs.pat.put_programs.Given as goal

-- what is left of the rows brings the rest of the entries
abbrev pub invariant-loop-row : goal.invariant-loop-row
invariant-loop-row l =
    (l.place.len + 4 * pmts (drop l.row-index l.rows) ≡ l.initial.place.len + 4 * pmts l.rows)
    × (written l.place ++ programs (drop l.row-index l.rows) ≡ written l.initial.place ++ programs l.rows)
