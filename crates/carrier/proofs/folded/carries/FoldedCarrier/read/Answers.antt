use Rattle.std.proofs.Common.{◌+◌, ◌-◌, drop, sym, ap, ◌∙◌, arith}
use Rattle.std.proofs.lemmas.List.{get_or_past}
use Rattle.std.proofs.lemmas.Bool.{le-ltb}
use Rattle.std.specs.Slice.Iter.{chunks_exact_rest}
use Rattle.carrier.specs.Foldings.{folded_meaning}
use Rattle.carrier.specs.Folds.{with_pending}
use Rattle.carrier.proofs.Unfolding.{AtFold, AtEnd, found_before, found_kept, passed, found_pending, past_all}
use Rattle.carrier.proofs.folded.carries.FoldedCarrier.read.Goals as goal
use Rattle.carrier.proofs.folded.carries.FoldedCarrier.read.Goals.{In-Some, In-None}

at_fold : (c : In-Some) → AtFold (folded_meaning c.args.self.now).packets c.args.i c.args.self.now.pending c.loop-fold.left (chunks_exact_rest c.loop-fold.fold-iterator) c.in-Some.fold.now (chunks_exact_rest c.next.new.self)
at_fold c =
    let step = c.in-Some.ensures.steps in
    record { long = omega (arith, step.1.1, c.loop-fold.invariant.3); is = step.1.0; same = c.loop-fold.invariant.4 }

at_end : (c : In-None) → AtEnd (folded_meaning c.args.self.now).packets c.args.i c.args.self.now.pending c.loop-fold.left (chunks_exact_rest c.loop-fold.fold-iterator)
at_end c = record { short = omega (arith, c.in-None.ensures.steps.1.0, c.loop-fold.invariant.3); same = c.loop-fold.invariant.4 }

pub returns-then-left-count : goal.returns-then-left-count
returns-then-left-count c =
    let found = found_before (at_fold (goal.at.returns-then-left-count c).In-Some) c.args.place.now (omega arith) in
    record { test = found.test; after = c.stuffing.ensures.value ∙ found.after }

pub returns-then-left-count-2 : goal.returns-then-left-count-2
returns-then-left-count-2 c =
    let found = found_kept (at_fold (goal.at.returns-then-left-count-2 c).In-Some) c.args.place.now (omega arith) in
    record { test = found.test; after = c.copy_from_slice.ensures.after ∙ found.after }

pub loop-fold-preserved : goal.loop-fold-preserved
loop-fold-preserved c =
    let step = c.in-Some.ensures.steps in (
      omega (arith, step.0, c.loop-fold.invariant.3),
      omega arith,
      c.loop-fold.invariant.2,
      omega (arith, step.0, c.loop-fold.invariant.3),
      ap (λ n. drop (c.loop-fold.left - (n + 1)) (with_pending (chunks_exact_rest c.next.new.self) c.args.self.now.pending)) c.from-count.ensures
          ∙ passed (at_fold (goal.at.loop-fold-preserved c).In-Some) (omega arith),
    )

pub returns-then-left-from : goal.returns-then-left-from
returns-then-left-from c =
    let past = past_all (at_end (goal.at.returns-then-left-from c).In-None) (omega arith) in
    record { test = sym (le-ltb _ _ past); after = c.loop-fold.invariant.2 ∙ sym (get_or_past _ _ _ past) }

pub returns : goal.returns
returns c =
    let found = found_pending (at_end (goal.at.returns c).In-None) c.args.place.now (omega arith) in
    record { test = found.test; after = c.stuffing-2.ensures.value ∙ found.after }
