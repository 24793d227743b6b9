use Rattle.std.proofs.Common.{◌≡◌, ℕ, cond, Some, None, Option, sym, ap, ◌∙◌, arith}
use Rattle.std.proofs.lemmas.Bool.{cond-true}
use Rattle.std.proofs.lemmas.Grind.{common_steps}
use Rattle.config.specs.declared.row.Row.{Row}
use Rattle.psi.specs.Delivery.{deliverable, by_row, deliver_by}
use Rattle.psi.specs.Lookup.{find_row}
use Rattle.psi.specs.Packet.{good_packet}
use Rattle.psi.proofs.Deliveries.{told}
use Rattle.psi.proofs.Packets.{headed}
use Rattle.psi.proofs.delivery.deliver_by.Goals as goal
use Rattle.psi.proofs.delivery.deliver_by.Goals.{After-find_row}

-- what is made of the packet for what was found
made : (c : After-find_row) (found : Option (ℕ × Row)) → c.find_row.result ≡ found
    → Some (by_row c.args.rows.now c.args.packet.now found) ≡ cond (good_packet c.args.packet.now) (Some (deliver_by c.args.rows.now c.args.parent c.args.packet.now)) None
unfolding deliver_by
made c found is =
    let h = headed c.args.packet.now c.in_ok-head.head (sym c.in_ok-head.ensures.ok_part ∙ c.of.ensures) in
    ap (λ f. Some (by_row c.args.rows.now c.args.packet.now f)) (sym is ∙ c.find_row.ensures ∙ ap (find_row c.args.rows.now c.args.parent) h.pid)
    ∙ sym (cond-true _ _ None h.good)

pub returns-in_default-clause-value : goal.returns-in_default-clause-value
returns-in_default-clause-value c = made (goal.at.returns-in_default-clause-value c).After-find_row None c.in_default.is

pub returns-in-Some-left : goal.returns-in-Some-left
returns-in-Some-left c =
    let m = made (goal.at.returns-in-Some-left c).After-find_row (Some (c.in-Some.number, c.in-Some.row)) c.in-Some.is in
    told c.args.rows.now c.args.parent c.args.packet.now (Some (deliverable c.in-Some.number c.in-Some-left.bytes)) (grind (arith, common_steps))

pub returns-in-None-clause-value : goal.returns-in-None-clause-value
returns-in-None-clause-value c =
    let m = made (goal.at.returns-in-None-clause-value c).After-find_row (Some (c.in-Some.number, c.in-Some.row)) c.in-Some.is in
    grind (arith, common_steps)
