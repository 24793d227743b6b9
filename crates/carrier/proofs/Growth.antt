-- What one packet does to a store of folds and to the pending stuffing.
use Rattle.std.proofs.Common.{◌≡◌, ℕ, ◌+◌, ◌*◌, ◌/◌, ◌%◌, ◌≤◌, true, false, [], ◌∷◌, ◌++◌, length, ap, ◌∙◌, arith, lit<}
use Rattle.std.proofs.lemmas.Slice.Eq.{bytes_eq-Decides}
use Rattle.std.proofs.lemmas.Bool.{and_parts}
use Rattle.psi.specs.Packet.{Bytes, stuffing}
use Rattle.carrier.specs.declared.store.Store.{Store}
use Rattle.carrier.specs.Folds.{with_pending, left_out}
use Rattle.carrier.specs.Meaning.{Carried}
use Rattle.carrier.specs.Stores.{size, unused, written, housed}
use Rattle.carrier.proofs.Stored.{whole_written, housed_carried}
use Rattle.carrier.proofs.Unfolding.{kept_more, left_out_more}

-- Packet x comes to a store s with so much stuffing pending, and then there is the store t.
pub data Grown (x : Bytes) (s : Store) (pending : ℕ) (t : Store) (pending' : ℕ) : Type 0 where
  goes : left_out x pending ≡ true → t ≡ s → pending' ≡ pending + 1 → Grown x s pending t pending'
  stays : left_out x pending ≡ false → size t ≡ size s → t.used ≡ s.used + 189 → written t ≡ written s ++ (x ++ pending ∷ []) → pending' ≡ 0 → Grown x s pending t pending'

is_stuffing_if : (x : Bytes) (pending : ℕ) → left_out x pending ≡ true → x ≡ stuffing
is_stuffing_if x pending out = (bytes_eq-Decides x stuffing).0 (and_parts _ _ out).0

module _ {x : Bytes} {s : Store} {p : ℕ} {t : Store} {q : ℕ} where
  pub grown_whole : Grown x s p t q → s.used % 189 ≡ 0 → t.used % 189 ≡ 0
  grown_whole (goes out same more) whole = ap (λ r. r.used % 189) same ∙ whole
  grown_whole (stays kept same more is none) whole = omega arith

  pub grown_bounded : Grown x s p t q → (held : ℕ) → held ≤ 256 * (s.used / 189) + p → p ≤ 255 → held + 1 ≤ 256 * (t.used / 189) + q
  grown_bounded (goes out same more) held bounded small = let e = ap (λ r. r.used / 189) same in omega arith
  grown_bounded (stays kept same more is none) held bounded small = omega arith

  pub grown_packets : Grown x s p t q → length x ≡ 188 → s.used % 189 ≡ 0 → with_pending (written t) q ≡ with_pending (written s) p ++ x ∷ []
  grown_packets (goes out same more) long whole = (λ i. with_pending (written (same i)) (more i)) ∙ left_out_more (written s) x p (is_stuffing_if x p out)
  grown_packets (stays kept same more is none) long whole = (λ i. with_pending (is i) (none i)) ∙ kept_more (written s) x p (whole_written 189 s whole) long

  pub grown_carried : Grown x s p t q → length x ≡ 188 → s.used % 189 ≡ 0 → Carried (x ∷ []) (housed 189 s (with_pending (written s) p)) (housed 189 t (with_pending (written t) q))
  grown_carried g long whole = carried g (grown_packets g long whole)
    where
      carried : Grown x s p t q → with_pending (written t) q ≡ with_pending (written s) p ++ x ∷ [] → Carried (x ∷ []) (housed 189 s (with_pending (written s) p)) (housed 189 t (with_pending (written t) q))
      carried (goes out same more) is =
          let e = ap (λ r. unused r / 189) same in
          record { packets = is; capacity = ap (λ r. size r / 189) same; at_most = omega arith; no_more = omega arith }
      carried (stays kept same more _ none) is = housed_carried 189 (lit< tt) s t same more x _ _ is
