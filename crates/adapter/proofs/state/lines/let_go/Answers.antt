use Rattle.std.proofs.Common.{◌≡◌, [], length, get_or, set, ap, ◌∙◌, subst, arith}
use Rattle.memory.proofs.Shares.{length_lines}
use Rattle.memory.specs.Memory.{lines_in, line_in}
use Rattle.adapter.proofs.Keeping.{same_then}
use Rattle.adapter.proofs.Letting.{Cut-below, cut_one, cut_all, entries_from}
use Rattle.adapter.proofs.state.lines.let_go.Goals as goal

pub loop-p-preserved : goal.loop-p-preserved
unfolding line_in
loop-p-preserved c =
    let m₀ = c.args.memory.now in
    let i = c.loop-p.invariant in
    let rest = c.let_go_before.ensures.rest in (
      cut_one c.args.since c.loop-p.p (lines_in m₀) (lines_in c.loop-p.memory) _ (omega (arith, i.0.many, length_lines m₀, c.parents-p-end.ensures.lines)) i.0
          (c.let_go_before.ensures.lines ∙ ap (set (lines_in c.loop-p.memory) c.loop-p.p) (entries_from c.args.since (get_or (lines_in c.loop-p.memory) c.loop-p.p []))),
      record { backlog = rest.backlog ∙ i.1.backlog; shares = same_then _ _ _ i.1.shares rest.shares },
    )

pub returns-clause-lines : goal.returns-clause-lines
returns-clause-lines c =
    let m₀ = c.args.memory.now in
    let all : c.loop-p.p ≡ length (lines_in m₀) = omega (arith, length_lines m₀, c.parents-p-end.ensures.lines) in
    cut_all c.args.since (lines_in m₀) _ (subst (λ n. Cut-below c.args.since n (lines_in m₀) (lines_in c.loop-p.memory)) all c.loop-p.invariant.0)
