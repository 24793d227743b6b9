-- What is delivered is a packet, under a row of the table.
use Rattle.std.proofs.Common.{◌≡◌, ℕ, ◌<◌, Bool, true, false, cond, List, length, IfSome, Some, None, Option, sym, refl, subst}
use Rattle.config.specs.declared.row.Row.{Row}
use Rattle.config.specs.declared.row.Kind.{Kind}
use Rattle.config.specs.declared.row.Kind.TheVariants.{Pass, Pmt}
use Rattle.config.specs.Setup.{Setup}
use Rattle.psi.specs.Delivery.{Delivery, deliverable, by_patch, by_kind, by_row, Leaves, deliver_by, deliver}
use Rattle.psi.specs.Lookup.{find_row}
use Rattle.psi.specs.Packet.{Bytes, good_packet, pid_of, Framed}
use Rattle.psi.specs.Pmt.{patched}
use Rattle.psi.proofs.Again.{patched_framed}
use Rattle.psi.proofs.Lookups.{found}
use Rattle.psi.proofs.Packets.{good_parts, with_pid_framed}

patch_leaves : (rows : List Row) (row : Row) (number : ℕ) (x : Bytes) (o : Option Bytes) → number < length rows → patched rows row x ≡ o → Leaves rows (by_patch number o)
patch_leaves rows row number x None within e = tt
patch_leaves rows row number x (Some y) within e = (within, patched_framed rows row x y e)

kind_leaves : (rows : List Row) (row : Row) (number : ℕ) (x : Bytes) (k : Kind) → number < length rows → good_packet x ≡ true → Leaves rows (by_kind rows number row x k)
kind_leaves rows row number x Pass within good = (within, with_pid_framed row.out x (good_parts x good))
kind_leaves rows row number x Pmt within good = patch_leaves rows row number x (patched rows row x) within refl

row_leaves : (rows : List Row) (parent : ℕ) (x : Bytes) (o : Option (ℕ × Row)) → find_row rows parent (pid_of x) ≡ o → good_packet x ≡ true → Leaves rows (by_row rows x o)
row_leaves rows parent x None e good = tt
row_leaves rows parent x (Some f) e good = kind_leaves rows f.1 f.0 x f.1.kind (found rows parent (pid_of x) f e).within good

pub leaves : (rows : List Row) (parent : ℕ) (x : Bytes) → good_packet x ≡ true → Leaves rows (deliver_by rows parent x)
unfolding deliver_by
leaves rows parent x good = row_leaves rows parent x (find_row rows parent (pid_of x)) refl good

leaves_if : (rows : List Row) (b : Bool) (d : Delivery) → (b ≡ true → Leaves rows d) → IfSome (cond b (Some d) None) (Leaves rows)
leaves_if rows true d h = h refl
leaves_if rows false d h = tt

-- all that a delivery promises, from what it answers
pub told : (rows : List Row) (parent : ℕ) (x : Bytes) (o : Option Delivery) → o ≡ cond (good_packet x) (Some (deliver_by rows parent x)) None
    → record { value : o ≡ cond (good_packet x) (Some (deliver_by rows parent x)) None; leaves : IfSome o (Leaves rows) }
told rows parent x o e =
    record { value = e; leaves = subst (λ (d : Option Delivery). IfSome d (Leaves rows)) (sym e) (leaves_if rows (good_packet x) (deliver_by rows parent x) (leaves rows parent x)) }

-- a good packet that is delivered leaves as a packet, under a row of the map
pub delivered : (c : Setup) (parent : ℕ) (x : Bytes) (number : ℕ) (y : Bytes) → good_packet x ≡ true → deliver c parent x ≡ deliverable number y → (number < length c.rows) × Framed y
unfolding deliver
delivered c parent x number y good e = subst (Leaves c.rows) e (leaves c.rows parent x good)
