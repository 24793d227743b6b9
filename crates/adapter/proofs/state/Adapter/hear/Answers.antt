use Rattle.std.proofs.Common.{rules, ◌≡◌, ℕ, set, Some, Ok, sym, refl, ◌∙◌, subst, arith}
use Rattle.std.proofs.lemmas.Result.{err_from_is_err_and}
use Rattle.memory.specs.Memory.{line_in, room_in}
use Rattle.psi.specs.Delivery.{deliver, meant}
use Rattle.rules.specs.Calls.{Arrives, Good, Hears, unanchored, untimely}
use Rattle.rules.specs.Log.{hear}
use Rattle.rules.specs.Times.{Untimely}
use Rattle.adapter.specs.Answers.{hear_answer}
use Rattle.adapter.specs.Fields.{state_from, Reached}
use Rattle.adapter.specs.Keeping.{Keeps}
use Rattle.adapter.specs.Parents.{stamp_of}
use Rattle.adapter.specs.View.{view, setup_of, entries_of}
use Rattle.adapter.specs.declared.answer.Heard.{Heard}
use Rattle.adapter.proofs.Hearing.{delivered_good, full_stays, heard_taken, heard_full, has_place, parent_is, line_is, arrives_by, known_by, same_lines, same_state}
use Rattle.adapter.proofs.Keeping.{quiet_same, quiet_set}
use Rattle.adapter.proofs.Views.{reached_by}
use Rattle.adapter.proofs.state.Adapter.hear.Goals as goal
use Rattle.adapter.proofs.state.Adapter.hear.Goals.{After-stamp, After-keep}

good : (c : After-stamp) → Good (setup_of c.args.self.now) (entries_of c.args.self.now) c.args.parent c.args.packet.now
good c = record { known = c.in_ok-listed.ensures; good = (delivered_good _ _ _ c.in-Ok.ensures.value).0 }

pub returns-in_default-stamped-clause-rule : goal.returns-in_default-stamped-clause-rule
returns-in_default-stamped-clause-rule c =
    let a = c.args.self.now in
    let so = rw c.in_default-stamped.is at (c.in-Ok-stamp.ensures (line_in a.memory c.args.parent)) in
    unanchored (good (goal.at.returns-in_default-stamped-clause-rule c).After-stamp) (parent_is a c.args.parent c.in_ok-listed.ensures c.index-self-parent.result ∙ so.0) so.1 refl refl

pub returns-in_default-stamp-clause-rule : goal.returns-in_default-stamp-clause-rule
returns-in_default-stamp-clause-rule c =
    let a = c.args.self.now in
    untimely (good (goal.at.returns-in_default-stamp-clause-rule c).After-stamp)
    (subst (λ P. Untimely P c.args.time) (sym (parent_is a c.args.parent c.in_ok-listed.ensures c.index-self-parent.result)) (c.in_default-stamp.ensures (line_in a.memory c.args.parent)))
    refl c.forget-in_default-stamp.ensures.after

arrives : (c : After-keep) → Arrives (setup_of c.args.self.now) (entries_of c.args.self.now) (view c.args.self.now) c.args.parent c.args.packet.now c.args.time (stamp_of c.in-Some.times)
arrives c =
    arrives_by c.args.self.now c.args.parent c.in_ok-listed.ensures c.args.packet.now c.args.time c.index-self-parent.result c.rates.result.now c.in-Some.times
    (delivered_good _ _ _ c.in-Ok.ensures.value).0 c.rates.ensures (λ line. rw c.in-Some.is at (c.in-Ok-stamp.ensures line))

maps : (c : After-keep) → meant c.in-Ok.delivered ≡ deliver (setup_of c.args.self.now) c.args.parent c.args.packet.now
maps c = (delivered_good _ _ _ c.in-Ok.ensures.value).1

pub invariant_of-self : goal.invariant_of-self
invariant_of-self c =
    let a = c.args.self.now in
    let listed = c.in_ok-listed.ensures in
    let m = c.keep.new.memory in
    let rest = c.keep.ensures.rest in
    let stays = full_stays _ c.in_err-heard.ensures.rule in
    let state = same_state a c.args.parent listed m c.keep.ensures.lines stays rest.backlog in record {
      places = a.places;
      parents = search rules;
      size = search rules;
      room = search rules;
      quiet = quiet_same a.heard a.memory m (same_lines a c.args.parent listed m c.keep.ensures.lines stays) a.quiet;
      reached = subst (λ n. Reached (setup_of a) n (state_from m a.heard a.records a.step)) (sym rest.shares.entries) (subst (Reached (setup_of a) (entries_of a)) (sym state) a.reached);
    }

pub returns-in_err-heard-clause-rule : goal.returns-in_err-heard-clause-rule
returns-in_err-heard-clause-rule c =
    let a = c.args.self.now in
    let listed = c.in_ok-listed.ensures in
    let m = c.keep.new.memory in
    let k = (goal.at.returns-in_err-heard-clause-rule c).After-keep in
    let state = same_state a c.args.parent listed m c.keep.ensures.lines (full_stays _ c.in_err-heard.ensures.rule) c.keep.ensures.rest.backlog in
    let err = err_from_is_err_and c.from_residual-in_err-heard.result c.from_residual-in_err-heard.ensures.1 in
    rw (err.1, err.2)
    (heard_full _ _ _ _ _ _ _ _ _ _ _ (arrives k) (maps k) a.room (line_is a c.args.parent listed) _ _ c.in_err-heard.ensures.rule state)

-- the packet was taken
rule : (c : After-keep) (h : Heard)
    → Keeps (stamp_of c.in-Some.times) (meant c.in-Ok.delivered) (room_in c.args.self.now.memory) (line_in c.args.self.now.memory c.args.parent) (hear_answer (Ok h)) (line_in c.keep.new.memory c.args.parent)
    → Hears (setup_of c.args.self.now) (entries_of c.args.self.now) (view c.args.self.now) c.args.parent c.args.packet.now c.args.time (hear_answer (Ok h))
    (state_from c.keep.new.memory (set c.args.self.now.heard c.args.parent (Some c.in-Some.times)) c.args.self.now.records c.args.self.now.step)
rule c h keeps =
    let a = c.args.self.now in
    let listed = c.in_ok-listed.ensures in
    heard_taken _ _ _ _ _ _ _ _ _ _ _ (arrives c) (maps c) a.room (line_is a c.args.parent listed) h _ keeps
    (known_by a c.args.parent listed c.keep.new.memory c.in-Some.times c.keep.ensures.lines c.keep.ensures.rest.backlog)

pub invariant_of-self-2-clause-quiet : goal.invariant_of-self-2-clause-quiet
invariant_of-self-2-clause-quiet c =
    let a = c.args.self.now in
    quiet_set a.heard a.memory _ c.args.parent (Some c.in-Some.times) _ (has_place a c.args.parent c.in_ok-listed.ensures) c.keep.ensures.lines (λ e. let z : ◌≡◌ {A = ℕ} 0 1 = cc in absurd (omega arith)) a.quiet

pub invariant_of-self-2-clause-reached : goal.invariant_of-self-2-clause-reached
invariant_of-self-2-clause-reached c =
    let k = (goal.at.invariant_of-self-2-clause-reached c).After-keep in
    reached_by (hear c.args.parent c.args.packet.now c.args.time (hear_answer (Ok c.in_ok-heard.heard))) c.keep.ensures.rest.shares.entries (rule k c.in_ok-heard.heard c.in_ok-heard.ensures.rule) c.args.self.now.reached

pub returns-clause-rule : goal.returns-clause-rule
returns-clause-rule c = rule (goal.at.returns-clause-rule c).After-keep c.in_ok-heard.heard c.in_ok-heard.ensures.rule
