-- The folded carrier: a place is 189 bytes, and stuffing that is left out takes none.
use Rattle.std.specs.Prelude.{◌≡◌, ◌+◌, cond, [], ◌++◌}
use Rattle.psi.specs.Packet.{Bytes}
use Rattle.carrier.specs.declared.folded.Folded.{Folded}
use Rattle.carrier.specs.Folds.{with_pending, left_out, fold_of}
use Rattle.carrier.specs.Meaning.{Meaning}
use Rattle.carrier.specs.Stores.{written, housed}

abbrev pub folded_bytes : Folded → Bytes
folded_bytes f = written f.store

abbrev pub folded_meaning : Folded → Meaning
folded_meaning f = housed 189 f.store (with_pending (folded_bytes f) f.pending)

-- no byte is used, and no stuffing is pending
pub record Blank (f : Folded) : Type 0 where
  pub bytes : folded_bytes f ≡ []
  pub pending : f.pending ≡ 0

-- what a put does to the bytes, to the pending stuffing and to the free places
pub record Folds (x : Bytes) (before after : Folded) : Type 0 where
  pub bytes : folded_bytes after ≡ folded_bytes before ++ fold_of x before.pending
  pub pending : after.pending ≡ cond (left_out x before.pending) (before.pending + 1) 0
  pub places : (folded_meaning after).free + cond (left_out x before.pending) 0 1 ≡ (folded_meaning before).free
