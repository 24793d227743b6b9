use Rattle.std.proofs.Common.{◌%◌, length, sym, ap, arith}
use Rattle.carrier.proofs.Stored.{none_written}
use Rattle.carrier.proofs.Unfolding.{none_pending}
use Rattle.carrier.proofs.folded.Folded.new.Goals as goal

pub invariant_of-result : goal.invariant_of-result
invariant_of-result c =
    let s = c.new.result in
    let none = c.new.ensures.used in
    record { whole = ap (λ n. n % 189) none; counted = sym (ap length (none_pending _ (none_written s none))); bounded = omega arith }
