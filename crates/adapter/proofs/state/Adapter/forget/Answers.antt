use Rattle.std.proofs.Common.{◌≡◌, ◌<◌, [], length, set, None, vec_items, refl, ap, ◌∙◌, arith}
use Rattle.memory.specs.Memory.{lines_in, SameShares}
use Rattle.rules.specs.Calls.{loses, lost}
use Rattle.rules.specs.Log.{loss}
use Rattle.rules.specs.State.{lose}
use Rattle.adapter.specs.Fields.{state_from}
use Rattle.adapter.specs.Parents.{parents_by}
use Rattle.adapter.specs.View.{view}
use Rattle.adapter.proofs.Keeping.{same_then, quiet_set}
use Rattle.adapter.proofs.Views.{parents_set, state-≡, reached_by}
use Rattle.adapter.proofs.state.Adapter.forget.Goals as goal
use Rattle.adapter.proofs.state.Adapter.forget.Goals.{After-after-self}

lines : (c : After-after-self) → lines_in c.empty_backlog.new.self ≡ set (lines_in c.args.self.now.memory) c.args.parent []
lines c = c.empty_backlog.ensures.rest.lines ∙ c.clear.ensures.lines

shares : (c : After-after-self) → SameShares c.args.self.now.memory c.empty_backlog.new.self
shares c = same_then _ _ _ c.clear.ensures.rest.shares c.empty_backlog.ensures.rest.shares

-- the state that is left
left : (c : After-after-self)
    → state_from c.empty_backlog.new.self (set c.args.self.now.heard c.args.parent None) c.args.self.now.records c.after-self.result
    ≡ lose c.args.parent (view c.args.self.now)
left c =
    state-≡
    (ap (parents_by (set c.args.self.now.heard c.args.parent None)) (lines c)
    ∙ parents_set c.args.self.now.heard (lines_in c.args.self.now.memory) c.args.parent None [])
    refl refl c.empty_backlog.ensures.backlog c.after-self.ensures

pub invariant_of-self-clause-quiet : goal.invariant_of-self-clause-quiet
invariant_of-self-clause-quiet c =
    let a = c.args.self.now in
    let low : c.args.parent < length (vec_items a.config.rates) = c.requires.listed in
    quiet_set a.heard a.memory _ c.args.parent None [] (omega (arith, a.config.parents.0, a.places)) (lines c) (λ e. refl) a.quiet

pub invariant_of-self-clause-reached : goal.invariant_of-self-clause-reached
invariant_of-self-clause-reached c = reached_by (loss c.args.parent lost) (shares c).entries (loses c.requires refl (left c)) c.args.self.now.reached

pub returns-clause-after : goal.returns-clause-after
returns-clause-after c = left (goal.at.returns-clause-after c).After-after-self
