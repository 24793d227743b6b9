-- Bytes that are written from the front on.
use Rattle.std.specs.Prelude.{ℕ, ◌-◌, ◌/◌, List, take, vec_items, vec_len}
use Rattle.psi.specs.Packet.{Bytes}
use Rattle.carrier.specs.declared.store.Store.{Store}
use Rattle.carrier.specs.Meaning.{Meaning}

-- how many bytes there are in all
abbrev pub size : Store → ℕ
size s = vec_len s.bytes

-- the used bytes
abbrev pub written : Store → Bytes
written s = take s.used (vec_items s.bytes)

-- how many bytes are unused
abbrev pub unused : Store → ℕ
unused s = size s - s.used

-- a carrier of these packets that has its bytes in a store, where a place is n bytes
abbrev pub housed : ℕ → Store → List Bytes → Meaning
housed n s packets = record { packets = packets; free = unused s / n; capacity = size s / n }
