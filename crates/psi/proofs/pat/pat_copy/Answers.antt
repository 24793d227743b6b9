use Rattle.std.proofs.Common.{◌≡◌, ◌+◌, ◌*◌, ◌%◌, ◌≤◌, Some, None, vec_items, sym, ap, ◌∙◌, subst, arith}
use Rattle.std.proofs.lemmas.Bool.{cond-true, le-leb}
use Rattle.config.specs.Rows.{pmts}
use Rattle.psi.specs.Packet.{Framed}
use Rattle.psi.specs.Pat.{pat_packet, pat_copy, pairs_of}
use Rattle.psi.proofs.Pats.{pat_framed, pat_reads}
use Rattle.psi.proofs.pat.pat_copy.Goals as goal

pub returns : goal.returns
unfolding pat_copy
returns c =
    let k = c.args.config.now in
    let rows = vec_items k.rows in
    let few = k.counted.1 in
    let n = (c.args.frame * k.settings.copies + c.args.copy) % 16 in
    let counter : (c.from.result * c.from-2.result + c.from-3.result) % 16 % 16 ≡ n =
    (λ i. (c.from.ensures i * (c.from-2.ensures ∙ c.copies.ensures) i + c.from-3.ensures i) % 16 % 16) ∙ omega arith in
    let some = sym c.unwrap.ensures ∙ c.pat.ensures ∙ cond-true _ _ None (le-leb _ 42 (subst (λ l. pmts l ≤ 42) (sym c.rows.ensures) few)) ∙ (λ i. Some (pat_packet (counter i) (c.tsid.ensures i) (c.rows.ensures i))) in
    let value : c.unwrap.result ≡ pat_packet n k.settings.tsid rows = cc some in
    record {
      value = value;
      framed = subst Framed (sym value) (pat_framed n k.settings.tsid rows few);
      reads = ap pairs_of value ∙ pat_reads n k.settings.tsid rows few k.ranges;
    }
