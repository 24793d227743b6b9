use Rattle.std.proofs.Common.{◌≡◌, [], map, length, Some, refl, ap, ◌∙◌, arith}
use Rattle.std.proofs.lemmas.List.{length-map}
use Rattle.memory.specs.Memory.{lines_in, SameShares}
use Rattle.rules.specs.Calls.{skips, skipped, skipping, let_go, records_from}
use Rattle.rules.specs.Entries.{from_on}
use Rattle.rules.specs.Log.{framed}
use Rattle.carrier.specs.Meaning.{Meaning}
use Rattle.adapter.specs.Fields.{state_from}
use Rattle.adapter.specs.Parents.{parents_by}
use Rattle.adapter.specs.View.{view, hearings_in}
use Rattle.adapter.proofs.Anchored.{restarted_heard}
use Rattle.adapter.proofs.Keeping.{same_then}
use Rattle.adapter.proofs.Standing.{places_suffice, known_all, quiet_restarted}
use Rattle.adapter.proofs.Views.{state-≡, reached_by}
use Rattle.adapter.proofs.state.Adapter.skip.Goals as goal
use Rattle.adapter.proofs.state.Adapter.skip.Goals.{After-after-self}

lines : (c : After-after-self) → lines_in c.empty_backlog.new.self ≡ map (from_on c.args.since) (lines_in c.args.self.now.memory)
lines c = c.empty_backlog.ensures.rest.lines ∙ c.let_go.ensures.lines

shares : (c : After-after-self) → SameShares c.args.self.now.memory c.empty_backlog.new.self
shares c = same_then _ _ _ c.let_go.ensures.rest.shares c.empty_backlog.ensures.rest.shares

left : (c : After-after-self)
    → state_from c.empty_backlog.new.self c.restart.new.heard c.let_go_before.new.self c.after-self.result
    ≡ skipping (view c.args.self.now) (hearings_in c.args.self.now)
left c =
    let a = c.args.self.now in
    let hs = hearings_in a in
    state-≡
    (ap (parents_by c.restart.new.heard) (lines c)
    ∙ restarted_heard c.args.since a.heard c.restart.new.heard (lines_in a.memory) (places_suffice a) c.restart.ensures.many (known_all a hs c.requires.called.anchored)
    (λ p l k. c.restart.ensures.each p l)
    ∙ ap (λ m. map (λ h. Some (let_go m h)) hs) c.requires.is)
    (c.let_go_before.ensures.waits ∙ ap (λ m. records_from m (view a).records) c.requires.is)
    c.let_go_before.ensures.last
    c.empty_backlog.ensures.backlog
    c.after-self.ensures

pub invariant_of-self-clause-quiet : goal.invariant_of-self-clause-quiet
invariant_of-self-clause-quiet c =
    let a = c.args.self.now in
    quiet_restarted c.args.since (length (lines_in a.memory)) a.heard c.restart.new.heard c.empty_backlog.new.self c.restart.ensures
    (known_all a (hearings_in a) c.requires.called.anchored)
    (let same = ap length (lines c) ∙ length-map (lines_in a.memory) (from_on c.args.since) in omega arith)

pub invariant_of-self-clause-reached : goal.invariant_of-self-clause-reached
invariant_of-self-clause-reached c =
    let empty : Meaning = record { packets = []; free = 0; capacity = 0 } in
    reached_by (framed empty (skipped c.requires.frame.number) empty) (shares c).entries
    (skips c.requires.frame c.requires.rest (hearings_in c.args.self.now) c.requires.called c.requires.early refl (left c) refl) c.args.self.now.reached

pub returns-clause-after : goal.returns-clause-after
returns-clause-after c = left (goal.at.returns-clause-after c).After-after-self
