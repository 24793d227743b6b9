-- A walk over pairs of hex digits.
use Rattle.std.proofs.Common.{◌≡◌, ℕ, [], ◌∷◌, ◌++◌, length, slice_index_or, Some, None, Option, sym, refl, ap, ◌∙◌}
use Rattle.std.proofs.lemmas.List.{append_assoc}
use Rattle.std.proofs.lemmas.Slice.Eq.{text_from_reads}
use Rattle.config.specs.Text.{Bytes}
use Rattle.sitelog.specs.Lines.{hex, hex_digit, pair, onto}

-- what is written stands behind other bytes
abbrev pub behind : Bytes → Option Bytes → Option Bytes
behind xs None = None
behind xs (Some ys) = Some (xs ++ ys)

-- the two digits that come next, and the byte that they write
pub pair_read : (p rest xs zs : Bytes) (b : ℕ) → length p ≡ 2 → pair (hex_digit (slice_index_or p 0 0)) (hex_digit (slice_index_or p 1 0)) ≡ Some b → zs ≡ xs ++ b ∷ [] → behind xs (hex (p ++ rest)) ≡ behind zs (hex rest)
pair_read p rest xs zs b two is more =
    ap (λ q. behind xs (hex (q ++ rest))) (text_from_reads p (slice_index_or p 0 0 ∷ slice_index_or p 1 0 ∷ []) two (refl, (refl, tt)))
    ∙ ap (λ o. behind xs (onto o (hex rest))) is ∙ by (hex rest) ∙ ap (λ l. behind l (hex rest)) (sym more)
  where
    by : (o : Option Bytes) → behind xs (onto (Some b) o) ≡ behind (xs ++ b ∷ []) o
    by None = refl
    by (Some ys) = ap Some (sym (append_assoc xs (b ∷ []) ys))
