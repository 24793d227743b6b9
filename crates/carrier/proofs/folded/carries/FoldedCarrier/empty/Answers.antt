use Rattle.std.proofs.Common.{◌%◌, length, sym, ap, arith}
use Rattle.carrier.proofs.Stored.{none_written}
use Rattle.carrier.proofs.Unfolding.{none_pending}
use Rattle.carrier.proofs.folded.carries.FoldedCarrier.empty.Goals as goal

pub invariant_of-self : goal.invariant_of-self
invariant_of-self c =
    let s = c.clear.new.self in
    let none = c.clear.ensures.used in
    record { whole = ap (λ n. n % 189) none; counted = sym (ap length (none_pending _ (none_written s none))); bounded = omega arith }
