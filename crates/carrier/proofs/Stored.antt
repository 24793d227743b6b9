-- The used bytes of a store, and the places of a carrier that has its bytes in one.
use Rattle.std.proofs.Common.{◌≡◌, ℕ, ◌+◌, ◌/◌, ◌%◌, ◌<◌, List, [], ◌∷◌, ◌++◌, length, take, vec_items, sym, ap, ◌∙◌, arith}
use native.Mathlib.Nat.{add-div_right}
use Rattle.std.proofs.lemmas.List.{length-take-le}
use Rattle.psi.specs.Packet.{Bytes}
use Rattle.carrier.specs.declared.store.Store.{Store}
use Rattle.carrier.specs.Meaning.{Carried, vacant}
use Rattle.carrier.specs.Pieces.{cut}
use Rattle.carrier.proofs.Cuts.{cut_none}
use Rattle.carrier.specs.Stores.{size, unused, written, housed}

pub length_written : (s : Store) → length (written s) ≡ s.used
length_written s = length-take-le s.used (vec_items s.bytes) (omega (arith, s.within, s.bytes.ok.0))

pub none_written : (s : Store) → s.used ≡ 0 → written s ≡ []
none_written s none = ap (λ n. take n (vec_items s.bytes)) none

pub whole_written : (n : ℕ) (s : Store) → s.used % n ≡ 0 → length (written s) % n ≡ 0
whole_written n s whole = ap (λ m. m % n) (length_written s) ∙ whole

-- an empty carrier
pub housed_none : (n : ℕ) (s : Store) (ps : List Bytes) (b : ℕ) → ps ≡ [] → size s ≡ b → s.used ≡ 0 → housed n s ps ≡ vacant (b / n)
housed_none n s ps b none long unwritten =
    let free : unused s ≡ b = omega arith in
    λ i. record { packets = none i; free = free i / n; capacity = long i / n }

module _ (n : ℕ) (some : 0 < n) (s t : Store) (same : size t ≡ size s) (more : t.used ≡ s.used + n) where
  -- one place is taken
  pub one_taken : unused t / n + 1 ≡ unused s / n
  one_taken =
      let rest : unused s ≡ unused t + n = omega (arith, t.within) in
      sym (ap (λ m. m / n) rest ∙ add-div_right (unused t) some)

  pub housed_carried : (x : Bytes) (ps qs : List Bytes) → qs ≡ ps ++ x ∷ [] → Carried (x ∷ []) (housed n s ps) (housed n t qs)
  housed_carried x ps qs is =
      let taken = one_taken in
      record { packets = is; capacity = ap (λ m. m / n) same; at_most = omega arith; no_more = omega arith }

-- an empty strip
pub strip_vacant : (s : Store) (b : ℕ) → size s ≡ b → s.used ≡ 0 → housed 188 s (cut 188 (written s)) ≡ vacant (b / 188)
strip_vacant s b long unwritten = housed_none 188 s _ b (ap (cut 188) (none_written s unwritten) ∙ cut_none 188) long unwritten
