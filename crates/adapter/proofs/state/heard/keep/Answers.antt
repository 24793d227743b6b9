use Rattle.std.proofs.Common.{rules, ◌≡◌, ℕ, ◌<◌, ◌≤◌, Bool, true, false, cond, ltb, ◌&&◌, [], ◌∷◌, ◌++◌, length, get_or, set, is_ok, Ok, Err, sym, refl, ap, ◌∙◌}
use Rattle.std.proofs.lemmas.List.{set-get_or}
use Rattle.std.proofs.lemmas.Bool.{ltb-true, ltb-false, lt-ltb}
use Rattle.memory.proofs.Shares.{line_after}
use Rattle.memory.specs.Memory.{lines_in, line_in, room_in, parents_in}
use Rattle.memory.specs.declared.Memory.{Memory}
use Rattle.psi.specs.Delivery.{Delivery, meant, deliverable}
use Rattle.rules.specs.Entries.{Entry}
use Rattle.rules.specs.Times.{Stamp}
use Rattle.adapter.specs.Answers.{hear_answer}
use Rattle.adapter.specs.Keeping.{Keeps, fills, holds}
use Rattle.adapter.specs.Parents.{stamp_of}
use Rattle.adapter.specs.declared.answer.Heard.TheVariants.{Held}
use Rattle.adapter.specs.declared.answer.Refusal.TheVariants.{FullLine}
use Rattle.adapter.proofs.Keeping.{and_right, and_right_false}
use Rattle.adapter.proofs.state.heard.keep.Goals as goal

pub returns-then-comes_early-clause-lines : goal.returns-then-comes_early-clause-lines
unfolding line_in
returns-then-comes_early-clause-lines c = sym (set-get_or (lines_in c.args.memory.now) c.args.parent [])

pub returns-in-Unmapped-clause-lines : goal.returns-in-Unmapped-clause-lines
unfolding line_in
returns-in-Unmapped-clause-lines c = sym (set-get_or (lines_in c.args.memory.now) c.args.parent [])

pub returns-in-Unpatchable-clause-lines : goal.returns-in-Unpatchable-clause-lines
unfolding line_in
returns-in-Unpatchable-clause-lines c = sym (set-get_or (lines_in c.args.memory.now) c.args.parent [])

-- a packet that is delivered in time takes its place, if its parent's line has room
placed : (m m' : Memory Entry) (p : ℕ) (e : Entry) (σ : Stamp) (d : Delivery) (b : Bool)
    → p < parents_in m → σ.from ≤ σ.arrival → d ≡ deliverable e.row e.bytes → e.arrival ≡ σ.arrival
    → b ≡ (ltb p (parents_in m) && ltb (length (line_in m p)) (room_in m))
    → lines_in m' ≡ cond b (set (lines_in m) p (line_in m p ++ e ∷ [])) (lines_in m)
    → Keeps σ d (room_in m) (line_in m p) (hear_answer (cond b (Ok Held) (Err FullLine))) (line_in m' p) × (lines_in m' ≡ set (lines_in m) p (line_in m' p))
unfolding line_in
placed m m' p e σ d true listed h k a test lines =
    let line = line_after m m' p _ listed lines in
    (holds e h k a (ltb-true _ _ (and_right _ _ test)) refl line, lines ∙ ap (set (lines_in m) p) (sym line))
placed m m' p e σ d false listed h k a test lines =
    let same = ap (λ l. get_or l p []) lines in
    (fills e h k a (ltb-false _ _ (and_right_false _ _ (lt-ltb _ _ listed) test)) refl same, lines ∙ sym (ap (set (lines_in m) p) same ∙ set-get_or (lines_in m) p []))

pub returns-in-Deliverable : goal.returns-in-Deliverable
returns-in-Deliverable c =
    let both = placed c.args.memory.now c.hold.new.self c.args.parent (record { arrival = c.heard_to.result; row = c.in-Deliverable.row; bytes = c.in-Deliverable.bytes })
    (stamp_of c.args.times.now) (meant c.args.delivered) (is_ok c.hold.result) c.requires (ltb-false _ _ (sym c.comes_early.ensures ∙ c.if-comes_early.false)) (ap meant c.in-Deliverable.is) c.heard_to.ensures c.hold.ensures.test c.hold.ensures.lines in
    let told : c.map_err.result ≡ cond (is_ok c.hold.result) (Ok Held) (Err FullLine) = search rules in
    record {
      rule = rw told both.0;
      lines = both.1;
      rest = c.hold.ensures.rest;
    }
