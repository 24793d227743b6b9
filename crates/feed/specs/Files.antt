-- Where sync bytes stand in a parent's file, and what a piece of it holds.
use Rattle.std.specs.Prelude.{ℕ, ◌+◌, ◌*◌, ◌%◌, ◌^◌, Bool, cond, ◌&&◌, ◌||◌, List, length, Some, None, Option, ◌==◌, nat_le, nat_lt, slice_index}
use Rattle.feed.specs.declared.file.FileKind.{FileKind}
use Rattle.feed.specs.declared.file.FileKind.TheVariants.{Plain, Timed}

-- how many bytes stand before the packet in a piece
abbrev pub lead_of : FileKind → ℕ
lead_of Plain = 0
lead_of Timed = 4

-- how many bytes a piece has
abbrev pub length_of : FileKind → ℕ
length_of Plain = 188
length_of Timed = 192

-- a sync byte stands at this place
abbrev pub stands : List ℕ → ℕ → Bool
stands bytes at = nat_lt at (length bytes) && slice_index bytes at == 0x47

-- a sync byte stands at this place, or the bytes end before it
abbrev pub may_stand : List ℕ → ℕ → Bool
may_stand bytes at = nat_le (length bytes) at || slice_index bytes at == 0x47

-- a sync byte stands in the first piece, and in the next two as far as the bytes reach
abbrev pub in_step : FileKind → List ℕ → Bool
in_step kind bytes =
    stands bytes (lead_of kind) && (may_stand bytes (lead_of kind + length_of kind) && may_stand bytes (lead_of kind + 2 * length_of kind))

-- the kind of a file that begins with these bytes: plain goes before timed
abbrev pub kind_of : List ℕ → Option FileKind
kind_of bytes = cond (in_step Plain bytes) (Some Plain) (cond (in_step Timed bytes) (Some Timed) None)

-- four bytes as one number, the first the highest
abbrev pub big_endian : List ℕ → ℕ
big_endian bytes = slice_index bytes 0 * 2 ^ 24 + slice_index bytes 1 * 2 ^ 16 + slice_index bytes 2 * 2 ^ 8 + slice_index bytes 3

-- the stamp of a timed piece: the low 30 bits of its first four bytes
abbrev pub stamp_in : List ℕ → Option ℕ
stamp_in piece = cond (nat_lt (length piece) 4) None (Some (big_endian piece % 2 ^ 30))
