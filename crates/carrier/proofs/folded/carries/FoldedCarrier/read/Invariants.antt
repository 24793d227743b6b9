use Rattle.std.proofs.Common.{◌≡◌, drop}
use Rattle.std.specs.Slice.Iter.{chunks_exact_rest, chunks_exact_size}
use Rattle.carrier.specs.Folds.{with_pending}
use Rattle.carrier.specs.Stores.{written}
use Rattle.carrier.proofs.folded.carries.FoldedCarrier.read.Given as goal

-- what is left to pass in the folds to come leads to the packet that is sought
abbrev pub invariant-loop-fold : goal.invariant-loop-fold
invariant-loop-fold l =
    (goal.iterator-loop-fold).can_next l.fold-iterator × (goal.iterator-loop-fold).is_finite l.fold-iterator
    × (l.place ≡ l.initial.place)
    × (chunks_exact_size l.fold-iterator ≡ 189)
    × (drop l.left (with_pending (chunks_exact_rest l.fold-iterator) l.self.pending) ≡ drop l.i (with_pending (written l.self.store) l.self.pending))
