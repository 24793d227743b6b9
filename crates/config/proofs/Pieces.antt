-- How a text's first line and a line's first field come off.
use Rattle.std.proofs.Common.{◌≡◌, ℕ, zero, suc, ◌+◌, ◌<◌, ◌≤◌, eqb, List, [], ◌∷◌, length, get_or, take, drop, Some, None, refl, ap, ⊎_elim, suc-le-suc, zero-le, add-one, arith}
use Rattle.std.specs.List.{slice_get}
use Rattle.std.proofs.lemmas.Bool.{eq-eqb, ne_eqb, cases_lt, cond_both}
use Rattle.std.proofs.lemmas.List.{drop_all, take_all, nil_from_length, at_drop_more, at_drop_all}
use Rattle.config.specs.Text.{Bytes, onto, cut, lines, fields}

-- none of the first n bytes is the separator
abbrev pub Free : ℕ → Bytes → ℕ → Type 0
Free separator bs n = (k : ℕ) → k < n → get_or bs k 0 ≡ separator → ⊥

free_rest : (s b : ℕ) (bs : Bytes) (n : ℕ) → Free s (b ∷ bs) (suc n) → Free s bs n
free_rest s b bs n free k lt = free (suc k) (suc-le-suc lt)

-- a separator at n ends the first piece
piece : (s : ℕ) (last : List Bytes) (bs : Bytes) (n : ℕ) → n < length bs → Free s bs n → get_or bs n 0 ≡ s → cut s last bs ≡ take n bs ∷ cut s last (drop (suc n) bs)
piece s last [] n lt free at = absurd (omega arith)
piece s last (b ∷ bs) zero lt free at = rw (eq-eqb b s at) refl
piece s last (b ∷ bs) (suc n) lt free at =
    rw (ne_eqb b s (free zero (suc-le-suc zero-le)))
    (ap (onto b) (piece s last bs n (omega arith) (free_rest s b bs n free) at))

-- with none, what is there is the one piece
whole : (s : ℕ) (last : List Bytes) → ((b : ℕ) → onto b last ≡ (b ∷ []) ∷ []) → (bs : Bytes) → 0 < length bs → Free s bs (length bs) → cut s last bs ≡ bs ∷ []
whole s last ends [] lt free = absurd (omega arith)
whole s last ends (b ∷ []) lt free = rw (ne_eqb b s (free zero (suc-le-suc zero-le))) (ends b)
whole s last ends (b ∷ d ∷ bs) lt free =
    rw (ne_eqb b s (free zero (suc-le-suc zero-le)))
    (ap (onto b) (whole s last ends (d ∷ bs) (suc-le-suc zero-le) (free_rest s b (d ∷ bs) (length (d ∷ bs)) free)))

-- The first n bytes have no separator, and one follows if anything does.
pub record Stops (separator : ℕ) (bs : Bytes) (n : ℕ) : Type 0 where
  pub bound : n ≤ length bs
  pub free : Free separator bs n
  pub at : n < length bs → get_or bs n 0 ≡ separator

pub lines_step : (bs : Bytes) (n : ℕ) → Stops 10 bs n → 0 < length bs → lines bs ≡ take n bs ∷ lines (drop (n + 1) bs)
unfolding lines
lines_step bs n stops some =
    ⊎_elim
    (λ lt. rw add-one (piece 10 [] bs n lt stops.free (stops.at lt)))
    (λ ge.
    let e : n ≡ length bs = omega (arith, stops.bound) in
    let past : length bs ≤ n + 1 = omega arith in
    rw (take_all n bs ge, drop_all (n + 1) bs past) (whole 10 [] (λ b. refl) bs some (rw e at stops.free)))
    (cases_lt n (length bs))

pub lines_none : (bs : Bytes) → length bs ≡ 0 → lines bs ≡ []
unfolding lines
lines_none bs e = rw (nil_from_length bs e)

pub fields_more : (bs : Bytes) (n : ℕ) → Stops 32 bs n → n < length bs → fields bs ≡ take n bs ∷ fields (drop (n + 1) bs)
unfolding fields
fields_more bs n stops lt = rw add-one (piece 32 ([] ∷ []) bs n lt stops.free (stops.at lt))

pub fields_last : (bs : Bytes) (n : ℕ) → Stops 32 bs n → length bs ≤ n → fields bs ≡ take n bs ∷ []
unfolding fields
fields_last [] n stops ge = rw (take_all {A = ℕ} n [] ge)
fields_last (b ∷ bs) n stops ge =
    let e : n ≡ length (b ∷ bs) = omega (arith, stops.bound) in
    rw (take_all n (b ∷ bs) ge) (whole 32 ([] ∷ []) (λ d. refl) (b ∷ bs) (suc-le-suc zero-le) (rw e at stops.free))

-- the element at n, from what is left behind it
pub nth_here : {X : Type 0} (xs : List X) (n : ℕ) (x : X) (ys : List X) → drop n xs ≡ x ∷ ys → (slice_get xs n ≡ Some x) × (drop (n + 1) xs ≡ ys)
nth_here [] zero x ys e = (cc, cc)
nth_here [] (suc n) x ys e = (cc, cc)
nth_here (y ∷ xs) zero x ys e = (cc, cc)
nth_here (y ∷ xs) (suc n) x ys e = let h = nth_here xs n x ys e in (h.0, rw add-one (rw add-one at h.1))

pub nth_none : {X : Type 0} (xs : List X) (n : ℕ) → drop n xs ≡ [] → slice_get xs n ≡ None
nth_none [] n e = refl
nth_none (y ∷ xs) zero e = cc
nth_none (y ∷ xs) (suc n) e = nth_none xs n e

-- How many fields there are: one more than spaces.
length_onto : (b : ℕ) (ps : List Bytes) → 0 < length ps → length (onto b ps) ≡ length ps
length_onto b [] some = absurd (omega arith)
length_onto b (p ∷ ps) some = refl

some_fields : (bs : Bytes) → 0 < length (fields bs)
unfolding fields
some_fields [] = suc-le-suc zero-le
some_fields (b ∷ bs) =
    cond_both (eqb b 32) ([] ∷ fields bs) (onto b (fields bs)) (λ ps. 0 < length ps)
    (λ e. suc-le-suc zero-le)
    (λ e. omega (arith, length_onto b (fields bs) (some_fields bs), some_fields bs))

space_first : (b : ℕ) (bs : Bytes) → b ≡ 32 → length (fields (b ∷ bs)) ≡ suc (length (fields bs))
unfolding fields
space_first b bs is = rw (eq-eqb b 32 is)

other_first : (b : ℕ) (bs : Bytes) → (b ≡ 32 → ⊥) → length (fields (b ∷ bs)) ≡ length (fields bs)
unfolding fields
other_first b bs not = rw (ne_eqb b 32 not) (length_onto b (fields bs) (some_fields bs))

-- so many spaces before index i
pub record Spaces (bs : Bytes) (i n : ℕ) : Type 0 where
  pub few : n ≤ i
  pub rest : length (fields bs) ≡ n + length (fields (drop i bs))

pub spaces_none : (bs : Bytes) → Spaces bs 0 0
spaces_none bs = record { few = zero-le; rest = omega arith }

module _ (bs : Bytes) (i n : ℕ) (within : i < length bs) (spaces : Spaces bs i n) where
  step : length (fields (drop i bs)) ≡ length (fields (get_or bs i 0 ∷ drop (i + 1) bs))
  step = at_drop_more (λ r. length (fields r)) bs i 0 within

  pub space_more : get_or bs i 0 ≡ 32 → Spaces bs (i + 1) (n + 1)
  space_more is =
      record { few = omega (arith, spaces.few); rest = omega (arith, spaces.rest, step, space_first (get_or bs i 0) (drop (i + 1) bs) is) }

  pub other_more : (get_or bs i 0 ≡ 32 → ⊥) → Spaces bs (i + 1) n
  other_more not =
      record { few = omega (arith, spaces.few); rest = omega (arith, spaces.rest, step, other_first (get_or bs i 0) (drop (i + 1) bs) not) }

pub spaces_all : (bs : Bytes) (i n : ℕ) → length bs ≤ i → Spaces bs i n → n + 1 ≡ length (fields bs)
unfolding fields
spaces_all bs i n past spaces = omega (arith, spaces.rest, at_drop_all (λ r. length (fields r)) bs i past)
