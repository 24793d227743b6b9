use Rattle.std.proofs.Common.{◌+◌, [], ◌∷◌, ◌++◌, length, sym, refl, ap, ◌∙◌, append_assoc, arith}
use Rattle.std.proofs.lemmas.List.{length_push}
use Rattle.carrier.specs.Stores.{written}
use Rattle.carrier.proofs.Growth.{Grown, goes, stays, grown_whole, grown_bounded, grown_packets, grown_carried}
use Rattle.carrier.proofs.folded.carries.FoldedCarrier.put.Goals as goal
use Rattle.carrier.proofs.folded.carries.FoldedCarrier.put.Goals.{Joined-leaves_out, then-leaves_out, else-leaves_out}

grown : (c : Joined-leaves_out) → Grown c.args.packet.now c.args.self.now.store c.args.self.now.pending c.if-leaves_out.self.1.0 c.if-leaves_out.self.1.1.0
grown c =
    let x = c.args.packet.now in
    let s = c.args.self.now.store in
    let p = c.args.self.now.pending in
    let long = c.in_ok-admit.ensures.framed.long in
    elim c.if-leaves_out.branch [
      | then-leaves_out w ↦ rw w.self-is (goes (sym c.leaves_out.ensures ∙ w.if-leaves_out.true) refl refl)
      | else-leaves_out w ↦
          let first = w.append.ensures in
          let count = w.replace-count.ensures in
          let second = w.append-else-leaves_out.ensures in
          rw w.self-is
          (stays (sym c.leaves_out.ensures ∙ w.if-leaves_out.false) (second.size ∙ first.size)
          (omega (arith, first.used, second.used))
          (second.written ∙ (λ i. first.written i ++ count.value i ∷ []) ∙ append_assoc (written s) x (p ∷ []))
          count.after)
    ]

pub invariant_of-self : goal.invariant_of-self
invariant_of-self c =
    let f = c.args.self.now in
    let g = grown c in
    let long = c.in_ok-admit.ensures.framed.long in record {
      whole = grown_whole g f.whole;
      counted = ap (λ n. n + 1) f.counted ∙ sym (length_push _ _) ∙ ap length (sym (grown_packets g long f.whole));
      bounded = grown_bounded g f.held f.bounded (omega arith);
    }

pub returns-clause-taken : goal.returns-clause-taken
returns-clause-taken c =
    grown_carried (grown (goal.at.returns-clause-taken c).Joined-leaves_out) c.in_ok-admit.ensures.framed.long c.args.self.now.whole
