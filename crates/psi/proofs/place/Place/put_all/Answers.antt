use Rattle.std.proofs.Common.{◌+◌, ◌-◌, length, arith}
use Rattle.psi.proofs.Placing.{placed}
use Rattle.psi.proofs.place.Place.put_all.Goals as goal

pub invariant_of-self : goal.invariant_of-self
invariant_of-self c =
    let p = c.args.self.now in
    let after = placed p.bytes p.len (p.len + length c.args.more.now - p.len) c.args.more.now _ c.copy_from_slice.ensures.after (omega arith) (record { within = p.within; long = p.long; blank = p.blank }) c.requires in
    record { within = after.within; long = after.long; blank = after.blank }
