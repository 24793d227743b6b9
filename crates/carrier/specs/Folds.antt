-- Packets with the stuffing left out: null-packet deletion as EN 302 755 has it.
use Rattle.std.specs.Prelude.{ℕ, Bool, cond, ◌&&◌, List, [], ◌∷◌, ◌++◌, take, replicate, nat_lt}
use Rattle.std.specs.List.{flat_map}
use Rattle.std.specs.Str.{bytes_eq}
use Rattle.psi.specs.Packet.{Bytes, byte, stuffing}
use Rattle.carrier.specs.Pieces.{cut}

-- What 189 bytes stand for: 188 are a packet that was kept, and the byte behind it counts the stuffing packets that were left out just before it.
abbrev pub opened : Bytes → List Bytes
opened fold = replicate (byte fold 188) stuffing ++ take 188 fold ∷ []

-- what bytes stand for, 189 by 189
unfoldable pub unfolded : Bytes → List Bytes
unfolded bs = flat_map opened (cut 189 bs)

-- Stuffing that is left out and not yet counted in the bytes is pending: it is held behind all that the bytes stand for.
abbrev pub with_pending : Bytes → ℕ → List Bytes
with_pending bs pending = unfolded bs ++ replicate pending stuffing

-- a packet is left out if it is stuffing, byte for byte, and the count has room for one more
abbrev pub left_out : Bytes → ℕ → Bool
left_out x pending = bytes_eq x stuffing && nat_lt pending 255

-- what a packet adds to the bytes: itself and the count of the stuffing before it, or nothing
abbrev pub fold_of : Bytes → ℕ → Bytes
fold_of x pending = cond (left_out x pending) [] (x ++ pending ∷ [])
