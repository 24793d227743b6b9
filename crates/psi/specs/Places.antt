-- A packet while it is written.
use Rattle.std.specs.Prelude.{take}
use Rattle.psi.specs.declared.place.Place.{Place}
use Rattle.psi.specs.Packet.{Bytes}

-- what is written so far
abbrev pub written : Place → Bytes
written p = take p.len p.bytes
