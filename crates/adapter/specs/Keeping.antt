-- What becomes of a packet that was taken and has its stamp.
use Rattle.std.specs.Prelude.{◌≡◌, ℕ, ◌<◌, ◌≤◌, ◌⊎◌, List, [], ◌∷◌, ◌++◌, length}
use Rattle.psi.specs.Delivery.{Delivery, unmapped, unpatchable, deliverable}
use Rattle.rules.specs.Entries.{Entry}
use Rattle.rules.specs.Calls.{HearAnswer, passed_over, dropped_it, held_it, refused_hear}
use Rattle.rules.specs.Times.{Stamp}

-- The map makes d of it, its parent's line has this room, and what waits there is `line` before and `line'` after.
pub data Keeps (σ : Stamp) (d : Delivery) (room : ℕ) (line : List Entry) (r : HearAnswer) (line' : List Entry) : Type 0 where
  passes : (d ≡ unmapped) ⊎ (σ.arrival < σ.from) → r ≡ passed_over → line' ≡ line → Keeps σ d room line r line'
  drops : σ.from ≤ σ.arrival → d ≡ unpatchable → r ≡ dropped_it → line' ≡ line → Keeps σ d room line r line'
  fills : (e : Entry) → σ.from ≤ σ.arrival → d ≡ deliverable e.row e.bytes → e.arrival ≡ σ.arrival
      → room ≤ length line → r ≡ refused_hear 9 → line' ≡ line
      → Keeps σ d room line r line'
  holds : (e : Entry) → σ.from ≤ σ.arrival → d ≡ deliverable e.row e.bytes → e.arrival ≡ σ.arrival
      → length line < room → r ≡ held_it → line' ≡ line ++ e ∷ []
      → Keeps σ d room line r line'
