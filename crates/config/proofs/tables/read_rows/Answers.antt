use Rattle.std.proofs.Common.{◌≡◌, ◌+◌, cond, length, Ok, vec_items, sym, ap, ◌∙◌, arith, rules}
use Rattle.config.specs.declared.row.Kind.TheVariants.{Pmt}
use Rattle.config.specs.Rows.{is_pmt}
use Rattle.config.proofs.ThirdTable.{no_pmt, same_rows, row_wrong_here, row_more, rows_done}
use Rattle.config.proofs.Walks.{memory_reads_err}
use Rattle.config.proofs.tables.read_rows.Goals as goal
use Rattle.config.proofs.tables.read_rows.Goals.{After-row, In_ok-push, then-eq, else-eq}

-- the rows read so far are so many
count : (c : After-row) → c.len.result ≡ length (vec_items c.loop-rows.rows)
count c = c.len.ensures ∙ c.loop-rows.rows.ok.0

pub returns-in_err-row : goal.returns-in_err-row
returns-in_err-row c =
    memory_reads_err _ c.next_line.new.self _ _ _ _ c.from_residual.ensures.1
    (row_wrong_here _ _ _ _ _ c.loop-rows.invariant _ c.next_line.ensures _ (count (goal.at.returns-in_err-row c).After-row) _ c.in_err-row.ensures)

-- the count of `pmt` rows goes with the row
counted : (c : In_ok-push) → c.if-eq.pmts ≡ c.loop-rows.pmts + cond (is_pmt c.in-Some.row.kind) 1 0
counted c =
    elim c.if-eq.branch [
      | then-eq w ↦ w.pmts-is ∙ ap (λ k. c.loop-rows.pmts + cond (is_pmt k) 1 0) (sym (let e : c.in-Some.row.kind ≡ Pmt = let h = w.if-eq.ensures in search rules in e))
      | else-eq w ↦ w.pmts-is ∙ no_pmt c.in-Some.row.kind c.loop-rows.pmts (let h = w.if-eq.ensures in search rules)
    ]

pub loop-rows-preserved : goal.loop-rows-preserved
loop-rows-preserved c =
    same_rows c.in_ok-push.ensures.items (counted c)
    (row_more _ _ _ _ _ c.loop-rows.invariant _ c.next_line.ensures _ (count (goal.at.loop-rows-preserved c).After-row) _ (ap Ok (sym c.in-Some.is) ∙ c.in_ok-row.ensures))

pub loop-rows-smaller : goal.loop-rows-smaller
loop-rows-smaller c = omega (arith, (loop-rows-preserved c).few, c.in_ok-push.ensures.len, c.push.new.self.ok.0)

pub returns : goal.returns
returns c =
    rows_done _ _ _ _ _ c.loop-rows.invariant _ c.next_line.ensures _ (count (goal.at.returns c).After-row) (ap Ok (sym c.in_default.is) ∙ c.in_ok-row.ensures)
