-- The map rows and the numbers of a configuration, and what a checked configuration keeps of them.
use Rattle.std.specs.Prelude.{◌≡◌, ℕ, ◌+◌, ◌<◌, ◌≤◌, Bool, true, false, cond, ◌⊎◌, List, [], ◌∷◌, length, slice_index}
use Rattle.std.specs.List.{HoldsAt, ContainsAt as Has}
use Rattle.config.specs.declared.row.Row.{Row}
use Rattle.config.specs.declared.row.Kind.{Kind}
use Rattle.config.specs.declared.row.Kind.TheVariants.{Pass, Pmt}

-- n lies in a range, both ends in it
abbrev pub Between : ℕ → ℕ → ℕ → Type 0
Between low high n = (low ≤ n) × (n ≤ high)

-- frame length in 27 MHz ticks, packets in the backlog, PAT copies in a frame, transport_stream_id
abbrev pub SettingsInRange : ℕ → ℕ → ℕ → ℕ → Type 0
SettingsInRange ticks backlog copies tsid =
    Between 10_000 40_000_000 ticks × Between 1 1_024 backlog × Between 1 16 copies × Between 0 65_535 tsid

-- one to four parents, each with its bits per second
abbrev pub RatesInRange : List ℕ → Type 0
RatesInRange rates =
    Between 1 4 (length rates) × ((p : ℕ) → p < length rates → Between 100_000 100_000_000 (slice_index rates p))

abbrev pub is_pmt : Kind → Bool
is_pmt Pass = false
is_pmt Pmt = true

-- how many rows are `pmt` rows
abbrev pub pmts : List Row → ℕ
pmts [] = 0
pmts (r ∷ rs) = cond (is_pmt r.kind) 1 0 + pmts rs

-- one to 64 rows, at most 42 of them `pmt`
abbrev pub RowsCounted : List Row → Type 0
RowsCounted rows = Between 1 64 (length rows) × (pmts rows ≤ 42)

-- the program numbers that a row may have: a `pmt` row has one, of 16 bits, and a `pass` row has none, which is 0
abbrev pub least_service : Kind → ℕ
least_service Pass = 0
least_service Pmt = 1

abbrev pub most_service : Kind → ℕ
most_service Pass = 0
most_service Pmt = 65_535

-- a row's PID as it comes and as it leaves, and its service
abbrev pub RowInRange : Row → Type 0
RowInRange r =
    Between 0 8_190 r.pid
    × Between 32 8_190 r.out
    × Between (least_service r.kind) (most_service r.kind) r.service

-- each row lies in its ranges, by `ContainsAt`: the proofs here and in `psi` pass a row on by `HoldsAt`
abbrev pub RowsInRange : List Row → Type 0
RowsInRange rows = (r : Row) → Has rows r → RowInRange r

-- each row's parent is one of so many
abbrev pub AllListed : ℕ → List Row → Type 0
AllListed parents rows = (r : Row) → Has rows r → r.parent < parents

-- row r stands before row s
pub record Before (rows : List Row) (r s : Row) : Type 0 where
  pub first : ℕ
  pub second : ℕ
  pub order : first < second
  pub within : second < length rows
  pub at_first : HoldsAt (λ x. x ≡ r) rows first
  pub at_second : HoldsAt (λ x. x ≡ s) rows second

-- Two rows share what each row has for itself: the pair of parent and pid, the out, or a service above 0.
abbrev pub Shares : Row → Row → Type 0
Shares r s =
    ((r.parent ≡ s.parent) × (r.pid ≡ s.pid)) ⊎ ((r.out ≡ s.out) ⊎ ((0 < r.service) × (r.service ≡ s.service)))

abbrev pub NoneShares : List Row → Type 0
NoneShares rows = (r s : Row) → Before rows r s → Shares r s → ⊥
