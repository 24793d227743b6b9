use Rattle.std.proofs.Common.{◌≡◌, vec_items}
use Rattle.std.specs.Slice.Iter.{chunks_rest, chunks_size}
use Rattle.sitelog.specs.Lines.{hex}
use Rattle.sitelog.proofs.Hexes.{behind}
use Rattle.sitelog.proofs.hex.bytes_in.Given as goal

-- what the rest writes stands behind the bytes so far
abbrev pub invariant-loop-pair : goal.invariant-loop-pair
invariant-loop-pair l =
    (goal.iterator-loop-pair).can_next l.pair-iterator
    × (goal.iterator-loop-pair).is_finite l.pair-iterator
    × (chunks_size l.pair-iterator ≡ 2)
    × (hex l.word ≡ behind (vec_items l.bytes) (hex (chunks_rest l.pair-iterator)))
