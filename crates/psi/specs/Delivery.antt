-- What the map makes of a parent's good packet.
use Rattle.std.specs.Prelude.{ℕ, ◌<◌, List, length, Some, None, Ok, Err, Option, Result}
use Rattle.config.specs.declared.row.Row.{Row}
use Rattle.config.specs.declared.row.Kind.{Kind}
use Rattle.config.specs.declared.row.Kind.TheVariants.{Pass, Pmt}
use Rattle.config.specs.Setup.{Setup}
use Rattle.psi.specs.declared.delivery.BadPacket.{BadPacket}
use Rattle.psi.specs.declared.delivery.Delivered.{Delivered}
use Rattle.psi.specs.declared.delivery.Delivered.TheVariants.{Unmapped, Unpatchable, Deliverable}
use Rattle.psi.specs.Lookup.{find_row}
use Rattle.psi.specs.Packet.{Bytes, pid_of, with_pid, Framed}
use Rattle.psi.specs.Pmt.{patched}

-- no row has it; its row is a `pmt` row and it is not patchable; or it leaves, under the row of that number, as these bytes
pub data Delivery : Type 0 where
  unmapped : Delivery
  unpatchable : Delivery
  deliverable : ℕ → Bytes → Delivery

abbrev pub by_patch : ℕ → Option Bytes → Delivery
by_patch number None = unpatchable
by_patch number (Some bytes) = deliverable number bytes

-- under a `pass` row only the PID changes, and under a `pmt` row the packet is patched
abbrev pub by_kind : List Row → ℕ → Row → Bytes → Kind → Delivery
by_kind rows number row x Pass = deliverable number (with_pid row.out x)
by_kind rows number row x Pmt = by_patch number (patched rows row x)

abbrev pub by_row : List Row → Bytes → Option (ℕ × Row) → Delivery
by_row rows x None = unmapped
by_row rows x (Some found) = by_kind rows found.0 found.1 x found.1.kind

unfoldable pub deliver_by : List Row → ℕ → Bytes → Delivery
deliver_by rows parent x = by_row rows x (find_row rows parent (pid_of x))

unfoldable pub deliver : Setup → ℕ → Bytes → Delivery
deliver c parent x = deliver_by c.rows parent x

-- What is delivered leaves under a row of the table, as a packet.
abbrev pub Leaves : List Row → Delivery → Type 0
Leaves rows unmapped = Unit {0}
Leaves rows unpatchable = Unit {0}
Leaves rows (deliverable number bytes) = (number < length rows) × Framed bytes

-- what an answer of the code stands for
abbrev pub meant : Delivered → Delivery
meant Unmapped = unmapped
meant Unpatchable = unpatchable
meant (Deliverable number bytes) = deliverable number bytes

abbrev pub answer : Result Delivered BadPacket → Option Delivery
answer (Ok d) = Some (meant d)
answer (Err bad) = None
