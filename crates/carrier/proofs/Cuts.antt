-- Bytes cut into pieces of one length: how many there are, which they are, and one more.
use Rattle.std.proofs.Common.{◌≡◌, ℕ, zero, suc, ◌+◌, ◌*◌, ◌/◌, ◌%◌, ◌<◌, ◌≤◌, [], ◌∷◌, ◌++◌, length, take, drop, sym, refl, ap, ◌∙◌, suc-mul, div-add-mod', zero-mul, add-one, arith, length-append, length-drop, take-append-drop}
use native.Mathlib.Nat.{add-div_right, zero-div, div-eq-sub-div}
use Rattle.std.specs.List.{flat_map}
use Rattle.std.proofs.lemmas.List.{take_all, take-append-le, drop-append-le, nil_from_length}
use Rattle.psi.specs.Packet.{Bytes}
use Rattle.std.specs.Simd.{first_chunks}
use Rattle.carrier.specs.Pieces.{cut}

length_first_chunks : (n k : ℕ) (bs : Bytes) → length (first_chunks n k bs) ≡ k
length_first_chunks n zero bs = refl
length_first_chunks n (suc k) bs = ap suc (length_first_chunks n k (drop n bs))

pub length_cut : (n : ℕ) (bs : Bytes) → length (cut n bs) ≡ length bs / n
unfolding cut
length_cut n bs = length_first_chunks n (length bs / n) bs

first_chunks_push : (n k : ℕ) (bs p : Bytes) → length bs ≡ k * n → length p ≡ n → first_chunks n (suc k) (bs ++ p) ≡ first_chunks n k bs ++ p ∷ []
first_chunks_push n zero bs p long whole =
    let none : bs ≡ [] = nil_from_length bs (long ∙ zero-mul n) in
    ap (λ xs. take n (xs ++ p) ∷ []) none ∙ ap (λ x. x ∷ []) (take_all n p (omega arith))
first_chunks_push n (suc k) bs p long whole =
    let more : length bs ≡ k * n + n = long ∙ suc-mul k n in
    let within : n ≤ length bs = omega arith in
    let rest : length (drop n bs) ≡ k * n = length-drop n bs ∙ omega arith in
    (λ i. take-append-le n bs p within i ∷ first_chunks n (suc k) (drop-append-le n bs p within i))
    ∙ ap (λ xs. take n bs ∷ xs) (first_chunks_push n k (drop n bs) p rest whole)

module _ (n : ℕ) (some : 0 < n) where
  -- one piece more
  pub cut_push : (bs p : Bytes) → length bs % n ≡ 0 → length p ≡ n → cut n (bs ++ p) ≡ cut n bs ++ p ∷ []
  unfolding cut
  cut_push bs p whole long =
      let count : length (bs ++ p) / n ≡ suc (length bs / n) = ap (λ m. m / n) (length-append bs p ∙ ap (λ m. length bs + m) long) ∙ add-div_right (length bs) some ∙ add-one (length bs / n) in
      let all : length bs ≡ length bs / n * n = let e = div-add-mod' (length bs) n in omega arith in
      ap (λ k. first_chunks n k (bs ++ p)) count ∙ first_chunks_push n (length bs / n) bs p all long

  -- the first piece, and those behind it
  pub cut_first : (bs : Bytes) → n ≤ length bs → cut n bs ≡ take n bs ∷ cut n (drop n bs)
  unfolding cut
  cut_first bs within =
      let count : length bs / n ≡ suc (length (drop n bs) / n) = div-eq-sub-div some within ∙ add-one _ ∙ ap (λ m. suc (m / n)) (sym (length-drop n bs)) in
      ap (λ k. first_chunks n k bs) count

  -- bytes that are whole pieces are these pieces end to end
  joined_first_chunks : (k : ℕ) (bs : Bytes) → length bs ≡ k * n → flat_map (λ p. p) (first_chunks n k bs) ≡ bs
  joined_first_chunks zero bs long = sym (nil_from_length bs (long ∙ zero-mul n))
  joined_first_chunks (suc k) bs long =
      let more : length bs ≡ k * n + n = long ∙ suc-mul k n in
      ap (λ xs. take n bs ++ xs) (joined_first_chunks k (drop n bs) (length-drop n bs ∙ omega arith)) ∙ take-append-drop n bs

  pub joined_cut : (bs : Bytes) → length bs % n ≡ 0 → flat_map (λ p. p) (cut n bs) ≡ bs
  unfolding cut
  joined_cut bs whole = joined_first_chunks (length bs / n) bs (let e = div-add-mod' (length bs) n in omega arith)

pub cut_none : (n : ℕ) → cut n [] ≡ []
unfolding cut
cut_none n = ap (λ k. first_chunks n k []) (zero-div n)
