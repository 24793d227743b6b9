-- What a carrier means to its user, and what each call does to that.
use Rattle.std.specs.Prelude.{◌≡◌, ℕ, ◌+◌, ◌≤◌, Bool, cond, ◌&&◌, List, [], ◌++◌, length, Some, None, Ok, Err, Option, Result, ◌==◌}
use Rattle.psi.specs.Packet.{Bytes, byte}
use Rattle.carrier.specs.declared.PutFault.{PutFault}
use Rattle.carrier.specs.declared.PutFault.TheVariants.{NoPacket, NoPlace}

-- the packets held, in the order in which they were put; the free places; the places of an empty carrier
pub record Meaning : Type 0 where
  pub packets : List Bytes
  pub free : ℕ
  pub capacity : ℕ

-- nothing is held, and every place is free
abbrev pub vacant : ℕ → Meaning
vacant places = record { packets = []; free = places; capacity = places }

-- what a carrier takes: 188 bytes, the sync byte first
abbrev pub framed : Bytes → Bool
framed x = length x == 188 && byte x 0 == 0x47

-- each refusal has a number
abbrev pub number_of : PutFault → ℕ
number_of NoPacket = 15
number_of NoPlace = 16

-- why a put of these bytes is refused, if it is: what they are comes first, and then how many places are free
abbrev pub refusal : Bytes → ℕ → Option ℕ
refusal x free = cond (framed x) (cond (free == 0) (Some 16) None) (Some 15)

-- the number of the refusal that a put answered, if it did
abbrev pub refusal_in : Result (Unit {0}) PutFault → Option ℕ
refusal_in (Ok done) = None
refusal_in (Err fault) = Some (number_of fault)

-- Packets were put, and none was refused. They stand behind those that were held, and the capacity stays. Each takes one of the free places or
-- none: which of the two is the carrier's own, and the only freedom that a carrier has.
pub record Carried (ps : List Bytes) (before after : Meaning) : Type 0 where
  pub packets : after.packets ≡ before.packets ++ ps
  pub capacity : after.capacity ≡ before.capacity
  pub at_most : before.free ≤ after.free + length ps
  pub no_more : after.free ≤ before.free
