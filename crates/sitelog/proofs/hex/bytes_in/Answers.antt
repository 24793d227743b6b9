use Rattle.std.proofs.Common.{rules, ◌≡◌, slice_index_or, vec_items, Some, ap, ◌∙◌, arith}
use Rattle.std.specs.Slice.Iter.{chunks_rest}
use Rattle.sitelog.specs.Lines.{hex, hex_digit, pair}
use Rattle.sitelog.proofs.Hexes.{behind, pair_read}
use Rattle.sitelog.proofs.hex.bytes_in.Goals as goal

pub loop-pair-preserved : goal.loop-pair-preserved
loop-pair-preserved c =
    let steps = c.in-Some.ensures.steps in
    let before = c.loop-pair.invariant in
    let digits = c.in-Some.pair.now in
    let xs = vec_items c.loop-pair.bytes in
    let is : pair (hex_digit (slice_index_or digits 0 0)) (hex_digit (slice_index_or digits 1 0)) ≡ Some c.in_ok-ok_or.field-0 = search rules in
    let more = pair_read digits (chunks_rest c.next.new.self) xs (vec_items c.push.new.self) c.in_ok-ok_or.field-0 (omega arith) is c.in_ok-push.ensures.items in
    (omega (arith, steps.0, before.2), tt, steps.0 ∙ before.2, before.3 ∙ ap (λ w. behind xs (hex w)) steps.1.0 ∙ more)
