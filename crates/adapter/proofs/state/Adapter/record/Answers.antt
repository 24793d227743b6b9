use Rattle.std.proofs.Common.{cond, is_ok, refl, ap}
use Rattle.rules.specs.Calls.{starts, anew, queued, refused_record}
use Rattle.rules.specs.Slots.{Frame}
use Rattle.rules.specs.Log.{recorded}
use Rattle.adapter.specs.Parents.{parents_by}
use Rattle.adapter.specs.View.{view, setup_of, entries_of}
use Rattle.adapter.proofs.Keeping.{never, quiet_same, queue_rule}
use Rattle.adapter.proofs.Views.{state-≡, reached_by}
use Rattle.adapter.proofs.state.Adapter.record.Goals as goal

pub invariant_of-self-then-precede-clause-reached : goal.invariant_of-self-then-precede-clause-reached
invariant_of-self-then-precede-clause-reached c =
    let a = c.args.self.now in
    let f : Frame = record { number = c.args.number; start = c.args.start; slots = c.args.slots } in
    let rule = queue_rule (setup_of a) (entries_of a) (view a) f (is_ok c.queue.result) _ _
    (c.is_roomy.ensures.0 c.if-not-is_roomy.false) (c.in_range.ensures.0 c.if-not-in_range.false) (c.precede.ensures.0 c.if-precede.true)
    c.queue.ensures.test c.queue.ensures.waits c.queue.ensures.last in
    reached_by (recorded f (cond (is_ok c.queue.result) queued (refused_record 11))) refl rule a.reached

pub invariant_of-self-2-clause-quiet : goal.invariant_of-self-2-clause-quiet
invariant_of-self-2-clause-quiet c = quiet_same c.args.self.now.heard c.args.self.now.memory _ c.empty_backlog.ensures.rest.lines c.args.self.now.quiet

pub invariant_of-self-2-clause-reached : goal.invariant_of-self-2-clause-reached
invariant_of-self-2-clause-reached c =
    let f : Frame = record { number = c.args.number; start = c.args.start; slots = c.args.slots } in
    let rest = c.empty_backlog.ensures.rest in
    let rule = starts (c.is_roomy.ensures.0 c.if-not-is_roomy.false) (c.in_range.ensures.0 c.if-not-in_range.false)
    (λ follows. never c.precede.result (c.precede.ensures.1 follows) c.if-precede.false)
    refl (state-≡ (ap (parents_by c.args.self.now.heard) rest.lines) c.renew.ensures.waits c.renew.ensures.last c.empty_backlog.ensures.backlog c.after-self.ensures) in
    reached_by (recorded f anew) rest.shares.entries rule c.args.self.now.reached
