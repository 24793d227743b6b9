use Rattle.std.proofs.Common.{arith}
use Rattle.std.proofs.lemmas.List.{take_rest}
use Rattle.std.proofs.lemmas.Grind.{common_steps}
use Rattle.psi.proofs.Packets.{headed, good_parts}
use Rattle.psi.proofs.Shapes.{opens_from, is_payload}
use Rattle.psi.proofs.pmt.opened.Goals as goal

pub returns : goal.returns
returns c =
    let h = headed c.args.packet.now c.in_ok-head.head c.in_ok-head.ensures in
    grind (arith, common_steps, opens_from, is_payload, good_parts, take_rest c.args.packet.now 5)
