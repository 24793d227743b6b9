use Rattle.std.proofs.Common.{◌≡◌, length, Ok, vec_items, sym, ap, ◌∙◌, subst, arith}
use Rattle.config.proofs.SecondTable.{ReadParents, parent_wrong, parent_more, parents_done}
use Rattle.config.proofs.Walks.{memory_reads_err}
use Rattle.config.proofs.tables.read_parents.Goals as goal
use Rattle.config.proofs.tables.read_parents.Goals.{After-parent, In_ok-rate}

-- the rates read so far are so many
count : (c : After-parent) → c.len.result ≡ length (vec_items c.loop-rates.rates)
count c = c.len.ensures ∙ c.loop-rates.rates.ok.0

pub returns-in_err-rate : goal.returns-in_err-rate
returns-in_err-rate c =
    memory_reads_err _ c.next_line.new.self _ _ _ _ c.from_residual.ensures.1
    (parent_wrong _ _ _ _ c.loop-rates.invariant _ c.next_line.ensures _ (count (goal.at.returns-in_err-rate c).After-parent) _ c.in_err-rate.ensures)

pub loop-rates-preserved : goal.loop-rates-preserved
loop-rates-preserved c =
    subst (ReadParents _ c.next_line.new.self) (sym c.in_ok-push.ensures.items)
    (parent_more _ _ _ _ c.loop-rates.invariant _ c.next_line.ensures _ (count (goal.at.loop-rates-preserved c).After-parent) _ (ap Ok (sym c.in-Some.is) ∙ c.in_ok-rate.ensures))

pub loop-rates-smaller : goal.loop-rates-smaller
loop-rates-smaller c = omega (arith, (loop-rates-preserved c).few, c.in_ok-push.ensures.len, c.push.new.self.ok.0)

pub returns : goal.returns
returns c =
    parents_done _ _ _ _ c.loop-rates.invariant _ c.next_line.ensures _ (count (goal.at.returns c).After-parent) (ap Ok (sym c.in_default.is) ∙ c.in_ok-rate.ensures)
