use Rattle.std.proofs.Common.{rules, ◌≡◌, ◌+◌, List, length, drop, sym, ap, ◌∙◌, subst, arith}
use Rattle.memory.specs.Memory.{lines_in, backlog_in, SameShares}
use Rattle.psi.specs.Packet.{Bytes}
use Rattle.rules.specs.Calls.{Frames, placed}
use Rattle.rules.specs.Log.{framed}
use Rattle.rules.specs.Slots.{end_of, doubt, reaches_zero, played, waiting}
use Rattle.adapter.specs.Fields.{state_from}
use Rattle.adapter.specs.Placing.{AllWhole, Goes, placed_answer, turns_of_lines}
use Rattle.adapter.specs.Steps.{adds_in, step_by}
use Rattle.adapter.specs.View.{view, setup_of, entries_of, hearings_in}
use Rattle.adapter.specs.declared.step.StepEvent.TheVariants.{Placed}
use Rattle.adapter.proofs.Keeping.{same_then}
use Rattle.adapter.proofs.Placed.{rising_begun, turns_are, parents_left, count_left, placed_rule}
use Rattle.adapter.proofs.Sounds.{begun_whole, backlog_whole, doubt_low, few}
use Rattle.adapter.proofs.Standing.{known_all, quiet_restarted, start_low, slots_low, slots_some}
use Rattle.adapter.proofs.Turns.{goes_means, lines_in_order}
use Rattle.adapter.proofs.Views.{state-≡, reached_by}
use Rattle.adapter.proofs.state.Adapter.place_now.Given as given
use Rattle.adapter.proofs.state.Adapter.place_now.Goals as goal
use Rattle.adapter.proofs.state.Adapter.place_now.Goals.{After-after-self}

pub overflow_add-end : goal.overflow_add-end
overflow_add-end g c =
    let a = c.args.self.now in
    omega (arith, ap (λ f. f.start) c.frame.view_is, start_low a c.args.frame c.requires.placeable_now.rest c.requires.placeable_now.due.called.oldest, c.ticks.ensures, c.from.ensures, a.config.in_range.0)

pub place-course-requires : goal.place-course-requires
place-course-requires g c =
    let a = c.args.self.now in
    let f = c.args.frame in
    let due = c.requires.placeable_now.due in
    let first = due.called.oldest in
    let m₁ = c.begin-doubt.new.memory in
    let e = c.begin-doubt.ensures in record {
      shared = search rules;
      lines_in_order = lines_in_order _ (rising_begun a f _ due m₁ m₁ e.lines);
      few_wait = few a m₁ e.rest.shares;
      all_whole = (begun_whole a (hearings_in a) f m₁ due.called.anchored e.lines, subst AllWhole (sym e.rest.backlog) (backlog_whole a));
      frame_in_range = (slots_some a f _ first, slots_low a f _ first, start_low a f _ first);
      doubt_within = omega (arith, e.doubt, doubt_low a);
      places_free = search rules;
    }

module _ (g : given.Over) (c : After-after-self g) where
  shares : SameShares c.args.self.now.memory c.place-course.new.memory
  shares = same_then _ _ _ c.begin-doubt.ensures.rest.shares c.place-course.ensures.placed.shares

  ends : c.frame.inside.start + c.from.result ≡ end_of (setup_of c.args.self.now) c.args.frame
  ends = ap (λ s. s + c.from.result) (ap (λ f. f.start) c.frame.view_is) ∙ ap (λ t. c.args.frame.start + t) (c.from.ensures ∙ c.ticks.ensures)

  left : state_from c.place-course.new.memory c.restart.new.heard c.done.new.self c.after-self.result
      ≡ placed (setup_of c.args.self.now) (view c.args.self.now) c.args.frame c.requires.placeable_now.rest (hearings_in c.args.self.now)
      (step_by c.args.self.now.step (Placed c.place-course.result.doubt c.place-course.result.zero))
  left =
      let a = c.args.self.now in
      let p = c.place-course.ensures.placed in
      state-≡
      (parents_left a c.args.frame c.requires.placeable_now.rest c.requires.placeable_now.due c.begin-doubt.new.memory c.place-course.new.memory c.begin-doubt.ensures.lines c.restart.new.heard _ ends c.restart.ensures p.lines)
      (c.done.ensures.waits ∙ ap (drop 1) c.requires.placeable_now.due.called.oldest)
      c.done.ensures.last
      (p.backlog ∙ ap (waiting a.config.settings.backlog (turns_of_lines (setup_of a) c.args.frame (lines_in c.begin-doubt.new.memory))) c.begin-doubt.ensures.rest.backlog
      ∙ ap (λ ts. waiting a.config.settings.backlog ts (backlog_in a.memory)) (turns_are a c.args.frame c.requires.placeable_now.rest c.requires.placeable_now.due c.begin-doubt.new.memory c.begin-doubt.new.memory c.begin-doubt.ensures.lines))
      c.after-self.ensures

  -- the packets of the frame
  packets : List Bytes
  packets =
      played (setup_of c.args.self.now) c.args.frame.number (turns_of_lines (setup_of c.args.self.now) c.args.frame (lines_in c.begin-doubt.new.memory)) (backlog_in c.begin-doubt.new.memory)

  goes : Goes g.C.Carrier.meaning (adds_in c.args.self.now.step) packets c.args.carrier.now c.place-course.new.carrier
  unfolding packets
  goes = subst (λ adding. Goes g.C.Carrier.meaning adding packets c.args.carrier.now c.place-course.new.carrier) c.adds-adding.ensures c.place-course.ensures.carried

  rule : Frames (setup_of c.args.self.now) (entries_of c.args.self.now) (view c.args.self.now) (g.C.Carrier.meaning c.args.carrier.now)
      (placed_answer (adds_in c.args.self.now.step) c.frame.inside.number c.place-course.result.drops)
      (state_from c.place-course.new.memory c.restart.new.heard c.done.new.self c.after-self.result)
      (g.C.Carrier.meaning c.place-course.new.carrier)
  unfolding packets
  rule =
      let a = c.args.self.now in
      let f = c.args.frame in
      let p = c.place-course.ensures.placed in
      let m₁ = c.begin-doubt.new.memory in
      let b₁ = backlog_in m₁ in
      let ts = turns_of_lines (setup_of a) f (lines_in m₁) in
      rw (ap (λ f. f.number) c.frame.view_is)
      (placed_rule a f c.requires.placeable_now.rest c.requires.placeable_now.due m₁ c.place-course.new.memory c.begin-doubt.ensures.lines _ (g.C.Carrier.meaning c.args.carrier.now) (g.C.Carrier.meaning c.place-course.new.carrier)
      c.place-course.result.drops c.place-course.result.doubt c.place-course.result.zero b₁ c.begin-doubt.ensures.rest.backlog
      c.requires.places_free
      p.counts
      (p.doubts ∙ ap (doubt a.config.settings.backlog ts) c.begin-doubt.ensures.doubt)
      (p.zero ∙ ap (reaches_zero a.config.settings.backlog ts) c.begin-doubt.ensures.doubt)
      (goes_means g.C.Carrier.meaning (adds_in a.step) _ _ _ goes)
      left)

pub invariant_of-self-clause-quiet : goal.invariant_of-self-clause-quiet
invariant_of-self-clause-quiet g c =
    let a = c.args.self.now in
    let m₂ = c.place-course.new.memory in
    quiet_restarted _ (length (lines_in a.memory)) a.heard c.restart.new.heard m₂ c.restart.ensures (known_all a (hearings_in a) c.requires.placeable_now.due.called.anchored)
    (let same = count_left a c.args.frame c.requires.placeable_now.rest c.requires.placeable_now.due c.begin-doubt.new.memory m₂ c.begin-doubt.ensures.lines c.place-course.ensures.placed.lines in omega arith)

pub invariant_of-self-clause-reached : goal.invariant_of-self-clause-reached
invariant_of-self-clause-reached g c = reached_by (framed _ _ _) (shares g c).entries (rule g c) c.args.self.now.reached

pub returns-clause-rule : goal.returns-clause-rule
returns-clause-rule g c = rule g (goal.at.returns-clause-rule g c).After-after-self
