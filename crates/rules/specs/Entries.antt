-- What waits in an adapter, and lines of it in order of arrival.
use Rattle.std.specs.Prelude.{ℕ, cond, List, [], ◌∷◌, nat_le, nat_lt}
use Rattle.psi.specs.Packet.{Bytes}

-- A packet that waits: when it arrived, the number of its map row, and its bytes as they will leave.
pub record Entry : Type 0 where
  pub arrival : ℕ
  pub row : ℕ
  pub bytes : Bytes

-- Of a line, what arrived before a moment.
abbrev pub before : ℕ → List Entry → List Entry
before m [] = []
before m (e ∷ es) = cond (nat_lt e.arrival m) (e ∷ before m es) []

-- Of a line, what is left when all that arrived before a moment is let go.
abbrev pub from_on : ℕ → List Entry → List Entry
from_on m [] = []
from_on m (e ∷ es) = cond (nat_lt e.arrival m) (from_on m es) (e ∷ es)

-- Lines in one order: by arrival, and at equal times the lower parent first.
abbrev pub into : Entry → List Entry → List Entry
into e [] = e ∷ []
into e (d ∷ ds) = cond (nat_le e.arrival d.arrival) (e ∷ d ∷ ds) (d ∷ into e ds)

abbrev pub merge : List Entry → List Entry → List Entry
merge [] ds = ds
merge (e ∷ es) ds = into e (merge es ds)

abbrev pub merged : List (List Entry) → List Entry
merged [] = []
merged (l ∷ ls) = merge l (merged ls)
