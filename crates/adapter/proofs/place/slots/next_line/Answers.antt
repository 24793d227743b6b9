use Rattle.std.proofs.Common.{◌≡◌, ℕ, ◌+◌, List, Option, sym, ap, ◌∙◌, subst, arith}
use Rattle.std.specs.Option.{option_map}
use Rattle.memory.specs.Memory.{lines_in, line_in}
use Rattle.rules.specs.Entries.{Entry}
use Rattle.adapter.proofs.Nexts.{Best, best_empty, best_stays, best_changes}
use Rattle.adapter.proofs.place.slots.next_line.Goals as goal
use Rattle.adapter.proofs.place.slots.next_line.Goals.{in-Some+then-entry-bound, in-Some+else-entry-bound, in_default}

same : (limit n : ℕ) (ls : List (List Entry)) {b b' : ℕ} {o o' : Option ℕ} → b' ≡ b → o' ≡ o → Best limit n ls b o → Best limit n ls b' o'
same limit n ls {b = b} {b' = b'} {o = o} {o' = o'} eb eo h = subst (λ y. Best limit n ls y o') (sym eb) (subst (λ y. Best limit n ls b y) (sym eo) h)

pub loop-p-preserved : goal.loop-p-preserved
unfolding line_in
loop-p-preserved c =
    let ls = lines_in c.args.memory.now in
    elim c.match-first.branch [
      | in-Some+then-entry-bound w ↦
          let at : w.entry.inside.arrival ≡ w.in-Some.entry.now.arrival = ap (λ e. e.arrival) w.entry.view_is in
          same c.args.limit (c.loop-p.p + 1) ls (w.bound-is ∙ at) w.next-is
          (best_changes c.args.limit c.loop-p.p ls c.loop-p.bound c.loop-p.next w.in-Some.entry.now c.loop-p.invariant (sym c.first.ensures ∙ ap (option_map (λ y. y.now)) w.in-Some.is) (omega (arith, at, w.if-entry-bound.true)))
      | in-Some+else-entry-bound w ↦
          same c.args.limit (c.loop-p.p + 1) ls w.bound-is w.next-is
          (best_stays c.args.limit c.loop-p.p ls c.loop-p.bound c.loop-p.next w.in-Some.entry.now c.loop-p.invariant (sym c.first.ensures ∙ ap (option_map (λ y. y.now)) w.in-Some.is) (omega (arith, ap (λ e. e.arrival) w.entry.view_is, w.if-entry-bound.false)))
      | in_default w ↦
          same c.args.limit (c.loop-p.p + 1) ls w.bound-is w.next-is
          (best_empty c.args.limit c.loop-p.p ls c.loop-p.bound c.loop-p.next c.loop-p.invariant (sym c.first.ensures ∙ ap (option_map (λ y. y.now)) w.in_default.is))
    ]
