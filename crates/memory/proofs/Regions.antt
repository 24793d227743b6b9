-- Regions of one list, and lines that wait side by side. Assumes nothing.
use Rattle.std.proofs.Common.{◌≡◌, ℕ, zero, suc, ◌+◌, ◌*◌, ◌<◌, ◌≤◌, ◌⊎◌, List, [], ◌∷◌, ◌++◌, length, get_or, take, drop, replicate, vec_items, vec_len, Some, None, Option, Vec, sym, refl, ap, ◌∙◌, ap₂, ⊎_elim, suc-mul, zero-mul, arith}
use borrow.Rule.Slice.PartMut.{put_mid}
use Rattle.std.proofs.lemmas.List.{drop-drop, drop-take, drop_at, take_at, length-append, length-drop, length-take, length-take-le, with_items_is}
use Rattle.std.proofs.lemmas.Slice.{take-put_mid_below, drop-put_mid}
use Rattle.std.specs.Vec.{with_items}
use Rattle.std.specs.Option.{option_to_list}
use Rattle.std.specs.declared.alloc.Global.{Global}
use Rattle.waiting.specs.Waiting.{waits, oldest}
use Rattle.waiting.specs.declared.Line.{Line}
use Rattle.memory.specs.Memory.{side_by_side}

-- two regions that do not meet: the one begins at a and has k places, the other at b and has n
abbrev pub Apart : ℕ → ℕ → ℕ → ℕ → Type 0
Apart a k b n = (b + n ≤ a) ⊎ (a + k ≤ b)

module _ {T : Type 0} where
  -- a write to the one leaves the other as it was
  pub apart_stays : (a k b n : ℕ) (xs ys : List T) → a + k ≤ length xs → length ys ≡ k → Apart a k b n → take n (drop b (put_mid a k xs ys)) ≡ take n (drop b xs)
  apart_stays a k b n xs ys within long apart =
      ⊎_elim
      (λ (before : b + n ≤ a).
      sym (drop-take b n (put_mid a k xs ys))
      ∙ ap (drop b) (take-put_mid_below a k xs ys (b + n) before (omega arith))
      ∙ drop-take b n xs)
      (λ (behind : a + k ≤ b). ap (take n) (drop-put_mid a k xs ys b behind (omega arith) long))
      apart

  -- a Vec of elements xs after a write of ys to the k from a on
  abbrev pub written : Vec T Global → ℕ → ℕ → List T → List T → Vec T Global
  written v a k xs ys = with_items v (put_mid a k xs ys)

  module _ (v : Vec T Global) (a k : ℕ) (xs ys : List T) (all : xs ≡ vec_items v) (within : a + k ≤ vec_len v) (long : length ys ≡ k) where
    as_many : vec_len v ≡ length xs
    as_many = omega (arith, v.ok.0, ap length all)

    is_written : vec_items (written v a k xs ys) ≡ put_mid a k xs ys
    is_written = with_items_is v (put_mid a k xs ys) (simp (length-append, length-take, length-drop) (omega (arith, as_many)))

    pub written_here : take k (drop a (vec_items (written v a k xs ys))) ≡ ys
    written_here = ap (λ l. take k (drop a l)) is_written ∙ ap (take k) (drop_at (take a xs) _ a (length-take-le a xs (omega (arith, as_many)))) ∙ take_at ys _ k long

    pub written_apart : (b n : ℕ) → Apart a k b n → take n (drop b (vec_items (written v a k xs ys))) ≡ take n (drop b (vec_items v))
    written_apart b n apart =
        ap (λ l. take n (drop b l)) is_written
        ∙ apart_stays a k b n xs ys (omega (arith, as_many)) long apart
        ∙ ap (λ l. take n (drop b l)) all

    pub written_behind : (e : ℕ) → a + k ≤ e → drop e (vec_items (written v a k xs ys)) ≡ drop e (vec_items v)
    written_behind e past = ap (drop e) is_written ∙ drop-put_mid a k xs ys e past (omega (arith, as_many)) long ∙ ap (drop e) all

  -- what is left once the oldest, r, has gone
  pub rest_is : (r : Option T) (vs : List T) → r ≡ oldest (option_to_list r ++ vs) → vs ≡ drop 1 (option_to_list r ++ vs)
  rest_is None [] is = refl
  rest_is None (v ∷ vs) is = cc
  rest_is (Some w) vs is = refl

  pub length_side : (room : ℕ) (lines : List (Line T)) (slots : List T) → length (side_by_side room lines slots) ≡ length lines
  unfolding side_by_side
  length_side room [] slots = refl
  length_side room (line ∷ lines) slots = ap suc (length_side room lines (drop room slots))

  -- the line p of those side by side
  pub get_or_side : (room : ℕ) (lines : List (Line T)) (slots : List T) (p : ℕ) (d : Line T) → p < length lines → get_or (side_by_side room lines slots) p [] ≡ waits (get_or lines p d) (take room (drop (p * room) slots))
  unfolding side_by_side
  get_or_side room [] slots p d within = absurd (omega arith)
  get_or_side room (line ∷ lines) slots zero d within = rw (zero-mul room)
  get_or_side room (line ∷ lines) slots (suc p) d within =
      get_or_side room lines (drop room slots) p d (omega arith)
      ∙ ap (λ l. waits (get_or lines p d) (take room l)) (drop-drop (p * room) room slots ∙ ap (λ n. drop n slots) (omega (arith, suc-mul p room)))

  -- where no line has anyone
  pub side_none : (room n : ℕ) (line : Line T) (slots : List T) → ((xs : List T) → waits line xs ≡ []) → side_by_side room (replicate n line) slots ≡ replicate n []
  unfolding side_by_side
  side_none room zero line slots none = refl
  side_none room (suc n) line slots none = ap₂ ◌∷◌ (none (take room slots)) (side_none room n line (drop room slots) none)
