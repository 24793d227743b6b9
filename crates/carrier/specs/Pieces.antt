-- Bytes cut into pieces of one length, from the front on.
use Rattle.std.specs.Prelude.{ℕ, ◌/◌, List, length}
use Rattle.std.specs.Simd.{first_chunks}
use Rattle.psi.specs.Packet.{Bytes}

-- as many pieces of n bytes as there are; what is left behind them is no piece
unfoldable pub cut : ℕ → Bytes → List Bytes
cut n bs = first_chunks n (length bs / n) bs
