-- Who waits in the two lines of a hall. Assumes nothing.
use Rattle.std.specs.Prelude.{List, take, drop, vec_items}
use Rattle.waiting.specs.Waiting.{waits}
use Rattle.waiting_tests.specs.declared.hall.Hall.{Hall}
use Rattle.waiting_tests.specs.declared.elements.Packet.{Packet}

-- The front line has the seats before the cut.
abbrev pub front_seats : Hall → List Packet
front_seats hall = take hall.cut (vec_items hall.memory)

-- The back line has the seats from the cut on.
abbrev pub back_seats : Hall → List Packet
back_seats hall = drop hall.cut (vec_items hall.memory)

-- Those who wait in front, and those who wait at the back, each in the order of coming.
abbrev pub in_front : Hall → List Packet
in_front hall = waits hall.front (front_seats hall)

abbrev pub at_back : Hall → List Packet
at_back hall = waits hall.back (back_seats hall)
