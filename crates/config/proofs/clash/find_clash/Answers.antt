use Rattle.std.proofs.Common.{◌<◌, ◌≤◌, length, sym, ap, ◌∙◌, subst}
use native.Mathlib.Nat.{sub-zero}
use Rattle.config.specs.declared.row.Row.{Row}
use Rattle.config.specs.declared.row.Kind.TheVariants.{Pass}
use Rattle.config.specs.Verdict.{first_clash, first, clash_at}
use Rattle.config.proofs.Clashes.{unlisted_here, sharing_here, clash_past}
use Rattle.config.proofs.clash.find_clash.Goals as goal
use Rattle.config.proofs.clash.find_clash.Goals.{then-from-listed-via-then-from-listed, then-from-listed-via-else-from-listed+then-shares_any}

-- what an index past the rows would read
abbrev blank : Row
blank = record { parent = 0; pid = 0; out = 0; kind = Pass; service = 0 }

pub loop-i-init : goal.loop-i-init
unfolding first_clash
loop-i-init c = ap (first (clash_at c.args.listed c.args.rows.now) 0) (sym (sub-zero (length c.args.rows.now)))

pub returns-then-from-listed-clause-value : goal.returns-then-from-listed-clause-value
returns-then-from-listed-clause-value c =
    let rows = c.args.rows.now in
    let i = c.loop-i.i in
    sym (c.loop-i.invariant ∙ elim c.then-from-listed.branch [
      | then-from-listed-via-then-from-listed w ↦ unlisted_here c.args.listed rows i blank c.loop-i-test.true (subst (λ n. c.args.listed ≤ n) c.from.ensures w.if-from-listed.true)
      | then-from-listed-via-else-from-listed+then-shares_any w ↦ sharing_here c.args.listed rows i blank c.loop-i-test.true (sym w.if-shares_any.ensures)
    ])

pub loop-i-preserved : goal.loop-i-preserved
loop-i-preserved c =
    let rows = c.args.rows.now in
    let i = c.loop-i.i in
    c.loop-i.invariant ∙ clash_past c.args.listed rows i blank c.loop-i-test.true (subst (λ n. n < c.args.listed) c.from.ensures c.if-from-listed.false) (sym c.if-shares_any.ensures)
