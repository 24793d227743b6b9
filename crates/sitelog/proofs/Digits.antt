-- A walk over decimal digits.
use Rattle.std.proofs.Common.{◌≡◌, ℕ, Bool, ◌+◌, ◌-◌, ◌*◌, ◌<◌, ◌≤◌, true, false, ◌&&◌, [], ◌∷◌, length, get_or, drop, None, sym, refl, ap, ◌∙◌, arith}
use Rattle.std.proofs.lemmas.List.{at_drop_more}
use Rattle.std.proofs.lemmas.Bool.{le-ltb, lt-ltb, cond-false}
use Rattle.std.specs.Char.{is_ascii_digit}
use Rattle.std.specs.List.{list_all}
use Rattle.config.specs.Text.{Bytes, is_digit, all_digits, written, written_after}
use Rattle.sitelog.specs.Lines.{below, digits}

pub all_are : (w : Bytes) → list_all is_ascii_digit w ≡ all_digits w
all_are [] = refl
all_are (b ∷ w) = ap (λ r. is_digit b && r) (all_are w)

and_true : (b : Bool) → b ≡ (b && true)
and_true true = refl
and_true false = refl

pub long_enough : (w : Bytes) → 0 < length w → all_digits w ≡ digits w
long_enough w lt = and_true (all_digits w) ∙ ap (λ b. all_digits w && b) (sym (lt-ltb 0 (length w) lt))

pub written_step : (w : Bytes) (i : ℕ) → i < length w → (n : ℕ) → written_after n (drop i w) ≡ written_after (n * 10 + (get_or w i 0 - 48)) (drop (i + 1) w)
written_step w i lt n = at_drop_more (written_after n) w i 0 lt

pub written_grows : (n : ℕ) (bs : Bytes) → n ≤ written_after n bs
written_grows n [] = omega arith
written_grows n (b ∷ bs) = omega (arith, written_grows (n * 10 + (b - 48)) bs)

pub written_begins : (w : Bytes) → written w ≡ written_after 0 w
unfolding written
written_begins w = refl

pub too_large : (m n k : ℕ) → n ≡ k → m ≤ k → below m n ≡ None
too_large m n k is le = cond-false _ _ _ (le-ltb n m (omega arith))
