use Rattle.std.proofs.Common.{◌≡◌, ◌/◌, ◌%◌, eqb, Some, None, sym, ap, ◌∙◌, arith}
use lib.Bits.{and_mask}
use Rattle.std.proofs.lemmas.Bool.{cond-true, cond-false, ltb-true, ltb-false, leb-true}
use Rattle.psi.specs.Packet.{byte, scrambling_of, adaptation_in}
use Rattle.psi.proofs.Packets.{Good, good_from, bad_from}
use Rattle.psi.proofs.packet.Head.of.Goals as goal

-- src/packet.rt:36:13
pub returns-in_default : goal.returns-in_default
returns-in_default c = sym (cond-false _ _ _ (bad_from c.args.packet.now (λ g. omega (arith, ltb-true, leb-true, ltb-false))))

-- src/packet.rt:36:13
pub returns-in_default-2 : goal.returns-in_default-2
returns-in_default-2 c = sym (cond-false _ _ _ (bad_from c.args.packet.now (λ g. omega arith)))

-- src/packet.rt:39:13
pub returns-then-rest : goal.returns-then-rest
returns-then-rest c = sym (cond-false _ _ _ (bad_from c.args.packet.now (λ g. grind arith)))

-- src/packet.rt:32:5
pub returns : goal.returns
returns c =
    let good : Good c.args.packet.now = record { long = omega arith; sync = omega arith; clear = omega arith } in
    let x = c.args.packet.now in
    let start : byte x 1 / 0x40 ≡ byte x 1 / 0x40 % 2 = omega arith in
    (λ i. Some (record { start = eqb (start i) 1; pid = c.number_in.ensures i; scrambling = scrambling_of x; adaptation = (c.of.ensures ∙ ap adaptation_in (and_mask (byte x 3 / 0x10) 2)) i; counter = and_mask (byte x 3) 4 i }))
    ∙ sym (cond-true _ _ None (good_from x good))
