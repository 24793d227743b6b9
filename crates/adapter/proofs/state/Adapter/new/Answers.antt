use Rattle.std.proofs.Common.{◌≡◌, ℕ, zero, suc, min, List, [], length, get_or, replicate, None, vec_items, sym, refl, ap, ◌∙◌, subst, arith}
use Rattle.rules.specs.Entries.{Entry}
use Rattle.config.specs.Setup.{setup}
use Rattle.memory.specs.Memory.{entries_in, line_in}
use Rattle.rules.specs.Log.{begins}
use Rattle.rules.specs.State.{power_up}
use Rattle.adapter.specs.Fields.{state_from, Reached}
use Rattle.adapter.specs.Parents.{parents_by}
use Rattle.adapter.specs.declared.step.Step.TheVariants.{Out}
use Rattle.adapter.proofs.Views.{parents_none, state-≡}
use Rattle.adapter.proofs.state.Adapter.new.Goals as goal
use Rattle.adapter.proofs.state.Adapter.new.Goals.{After-new}

-- as many parents as rates
count : (c : After-new) → min (length c.rates.result.now) 4 ≡ length (vec_items c.args.config.rates)
count c = omega (arith, c.args.config.parents.0, ap length c.rates.ensures)

-- at power-up
powered : (c : After-new)
    → state_from c.new-memory.result (replicate 4 None) c.new.result Out ≡ power_up (setup c.args.config)
powered c =
    let n = length (vec_items c.args.config.rates) in
    state-≡
    (ap (parents_by (replicate 4 None)) (c.new-memory.ensures.lines ∙ ap (λ k. replicate k []) (count c)) ∙ parents_none 4 n c.args.config.parents.0.1)
    c.new.ensures.waits c.new.ensures.last c.new-memory.ensures.backlog refl

none_waits : (n p : ℕ) → length (get_or {A = List Entry} (replicate n []) p []) ≡ 0
none_waits zero p = refl
none_waits (suc n) zero = refl
none_waits (suc n) (suc p) = none_waits n p

pub invariant_of-result-clause-quiet : goal.invariant_of-result-clause-quiet
unfolding line_in
invariant_of-result-clause-quiet c = λ p silent. ap (λ l. length (get_or l p [])) c.new-memory.ensures.lines ∙ none_waits _ p

pub invariant_of-result-clause-reached : goal.invariant_of-result-clause-reached
invariant_of-result-clause-reached c = subst (Reached (setup c.args.config) (entries_in c.new-memory.result)) (sym (powered c)) ∣ ([], begins) ∣₁

pub returns-clause-powered : goal.returns-clause-powered
returns-clause-powered c = powered (goal.at.returns-clause-powered c).After-new
