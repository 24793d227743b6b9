-- The strip: packets end to end, a place is 188 bytes.
use Rattle.psi.specs.Packet.{Bytes}
use Rattle.carrier.specs.declared.strip.Strip.{Strip}
use Rattle.carrier.specs.Meaning.{Meaning}
use Rattle.carrier.specs.Pieces.{cut}
use Rattle.carrier.specs.Stores.{written, housed}

abbrev pub strip_bytes : Strip → Bytes
strip_bytes s = written s.store

abbrev pub strip_meaning : Strip → Meaning
strip_meaning s = housed 188 s.store (cut 188 (strip_bytes s))
