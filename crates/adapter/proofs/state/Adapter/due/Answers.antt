use Rattle.std.proofs.Common.{◌≡◌, ℕ, ◌+◌, ◌<◌, List, ◌∷◌, length, take, None, Some, Err, Option, sym, refl, ap, ◌∙◌, subst, arith}
use Rattle.std.proofs.lemmas.Result.{err_from_is_err_and}
use Rattle.std.proofs.lemmas.List.{length-take-le, get_or-take}
use Rattle.std.specs.List.{list_all}
use Rattle.std.specs.Option.{ok_or}
use Rattle.adapter.specs.Answers.{number_of}
use Rattle.adapter.specs.declared.answer.Refusal.{Refusal}
use Rattle.memory.specs.Memory.{lines_in}
use Rattle.rules.specs.Slots.{Frame}
use Rattle.rules.specs.Calls.{Called}
use Rattle.rules.specs.Slots.{end_of}
use Rattle.rules.specs.State.{latest}
use Rattle.adapter.specs.Parents.{LatestSo, reaches}
use Rattle.adapter.specs.View.{view, setup_of, entries_of, hearings_in, silent, unheard}
use Rattle.adapter.proofs.Anchored.{Known, all_heard, latest_heard, reach_heard, short_heard}
use Rattle.adapter.proofs.Standing.{line_count, places_suffice, silent_one, waits_first, start_low}
use Rattle.adapter.proofs.state.Adapter.due.Goals as goal
use Rattle.adapter.proofs.state.Adapter.due.Goals.{After-latest}

first : (c : After-latest) → (rest : List Frame) × ((view c.args.self.now).records ≡ c.in_ok-frame.frame ∷ rest)
first c = waits_first _ c.in_ok-frame.frame (sym c.oldest.ensures ∙ c.in_ok-frame.ensures.ok_part)

many : (c : After-latest) → length c.rates-parents.result.now ≡ length (lines_in c.args.self.now.memory)
many c = ap length c.rates-parents.ensures ∙ sym (line_count c.args.self.now)

found : (d : After-latest) {o : Option ℕ} → d.latest.result ≡ o → LatestSo (take (length (lines_in d.args.self.now.memory)) d.args.self.now.heard) o
found d is = subst (LatestSo (take (length (lines_in d.args.self.now.memory)) d.args.self.now.heard)) is (subst (λ n. LatestSo (take n d.args.self.now.heard) d.latest.result) (many d) d.latest.ensures)

error_is : (o : Option ℕ) (e r : Refusal) → Err e ≡ ok_or o r → e ≡ r
error_is None e r is = cc
error_is (Some x) e r is = let z : ◌≡◌ {A = ℕ} 0 1 = cc in absurd (omega arith)

pub returns-in_err-since : goal.returns-in_err-since
returns-in_err-since c =
    let d = (goal.at.returns-in_err-since c).After-latest in
    let a = c.args.self.now in
    let n = length (lines_in a.memory) in
    let so = found d c.in_err-since.ensures.ok_part in
    let low : so.0 < n = omega (arith, so.1, length-take-le n a.heard (places_suffice a)) in
    let err = err_from_is_err_and c.from_residual-in_err-since.result c.from_residual-in_err-since.ensures.1 in
    rw (err.1, err.2)
    (silent (c.is_roomy.ensures.0 c.if-not-is_roomy.false) c.in_ok-frame.frame (first d).0 (first d).1 (silent_one a so.0 low (sym (get_or-take n a.heard so.0 None low) ∙ so.2)) (ap number_of (error_is c.latest.result _ _ c.in_err-since.ensures.value)))

-- every parent has an anchor
anchored : (d : After-latest) (since : ℕ) → d.latest.result ≡ Some since
    → Known d.args.self.now.heard (length (lines_in d.args.self.now.memory)) × (since ≡ latest (hearings_in d.args.self.now))
anchored d since is =
    let a = d.args.self.now in
    let n = length (lines_in a.memory) in
    let so = found d is in
    let all : length (take n a.heard) ≡ n = length-take-le n a.heard (places_suffice a) in
    let known : Known a.heard n = λ p k e. so.0 p (omega (arith, all)) (get_or-take n a.heard p None k ∙ e) in
    (known, so.1 ∙ latest_heard a.heard (lines_in a.memory) (places_suffice a) known)

called : (d : After-latest) (since : ℕ) → d.latest.result ≡ Some since
    → Called (setup_of d.args.self.now) (entries_of d.args.self.now) (view d.args.self.now) d.in_ok-frame.frame (first d).0 (hearings_in d.args.self.now)
called d since is =
    let a = d.args.self.now in
    record {
      roomy = d.is_roomy.ensures.0 d.if-not-is_roomy.false;
      oldest = (first d).1;
      anchored = all_heard a.heard (lines_in a.memory) (places_suffice a) (anchored d since is).0;
    }

pub returns-then-frame-since : goal.returns-then-frame-since
returns-then-frame-since c =
    let d = (goal.at.returns-then-frame-since c).After-latest in
    let some = c.in_ok-since.ensures.ok_part in
    let is = (anchored d c.in_ok-since.since some).1 in (
      record {
        frame = c.in_ok-frame.frame;
        rest = (first d).0;
        called = called d c.in_ok-since.since some;
        early = omega (arith, is, ap (λ f. f.start) c.frame.view_is);
        is = is;
      },
      ap (λ f. f.number) c.frame.view_is,
    )

pub overflow_add-end : goal.overflow_add-end
overflow_add-end c =
    let d = (goal.at.overflow_add-end c).After-latest in
    omega (arith, ap (λ f. f.start) c.frame.view_is, start_low c.args.self.now c.in_ok-frame.frame (first d).0 (first d).1, c.ticks.ensures, c.from.ensures, c.args.self.now.config.in_range.0)

pub returns-then-not-heard_until : goal.returns-then-not-heard_until
returns-then-not-heard_until c =
    let a = c.args.self.now in
    let d = (goal.at.returns-then-not-heard_until c).After-latest in
    let some = c.in_ok-since.ensures.ok_part in
    let is = (anchored d c.in_ok-since.since some).1 in
    let end : c.frame.inside.start + c.from.result ≡ end_of (setup_of a) c.in_ok-frame.frame = ap (λ s. s + c.from.result) (ap (λ f. f.start) c.frame.view_is) ∙ ap (λ t. c.in_ok-frame.frame.start + t) (c.from.ensures ∙ c.ticks.ensures) in
    unheard c.in_ok-frame.frame (first d).0 (called d c.in_ok-since.since some) (omega (arith, is, ap (λ f. f.start) c.frame.view_is))
    (short_heard (end_of (setup_of a) c.in_ok-frame.frame) a.heard (lines_in a.memory)
    (sym (ap (λ n. list_all (reaches (end_of (setup_of a) c.in_ok-frame.frame)) (take n a.heard)) (many d)) ∙ ap (λ e. list_all (reaches e) (take (length c.rates-parents.result.now) a.heard)) (sym end) ∙ sym c.heard_until.ensures ∙ c.if-not-heard_until.true))
    refl

pub returns : goal.returns
returns c =
    let a = c.args.self.now in
    let d = (goal.at.returns c).After-latest in
    let some = c.in_ok-since.ensures.ok_part in
    let is = (anchored d c.in_ok-since.since some).1 in
    let end : c.frame.inside.start + c.from.result ≡ end_of (setup_of a) c.in_ok-frame.frame = ap (λ s. s + c.from.result) (ap (λ f. f.start) c.frame.view_is) ∙ ap (λ t. c.in_ok-frame.frame.start + t) (c.from.ensures ∙ c.ticks.ensures) in
    record {
      rest = (first d).0;
      due =
          record {
            called = called d c.in_ok-since.since some;
            not_early = omega (arith, is, ap (λ f. f.start) c.frame.view_is);
            heard =
                reach_heard (end_of (setup_of a) c.in_ok-frame.frame) a.heard (lines_in a.memory)
                (sym (ap (λ n. list_all (reaches (end_of (setup_of a) c.in_ok-frame.frame)) (take n a.heard)) (many d)) ∙ ap (λ e. list_all (reaches e) (take (length c.rates-parents.result.now) a.heard)) (sym end) ∙ sym c.heard_until.ensures ∙ c.if-not-heard_until.false);
          };
    }
