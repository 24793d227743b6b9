-- Packets that every carrier takes.
use Rattle.std.specs.Prelude.{ℕ, ◌<◌, List, [], length, slice_index_or}
use Rattle.psi.specs.Packet.{Bytes, Framed}

abbrev pub AllFramed : List Bytes → Type 0
AllFramed ps = (k : ℕ) → k < length ps → Framed (slice_index_or ps k [])
