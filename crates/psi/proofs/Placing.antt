-- What a place holds after a write.
use Rattle.std.proofs.Common.{◌≡◌, ℕ, zero, suc, ◌+◌, ◌-◌, ◌%◌, ◌<◌, ◌≤◌, [], ◌∷◌, ◌++◌, length, get_or, take, drop, set, replicate, sym, refl, ap, ◌∙◌, append_assoc, le_of_suc-le-suc, not-suc-le-zero, arith, lit≤, length-append, length-drop, take-append-drop, length-take}
use borrow.Rule.Slice.PartMut.{put_mid}
use Rattle.std.proofs.lemmas.List.{drop-drop, drop-replicate, drop_at, drop-set-add, take-set-le, length-take-le, get_or-drop, get_or-take}
use Rattle.std.proofs.lemmas.Slice.{drop-put_mid}
use Rattle.psi.specs.Packet.{Bytes, byte}
use Rattle.psi.specs.Crc.{crc_of, four_bytes, sealed}
use Rattle.psi.specs.Sections.{length_high, with_length, closed}

-- bytes of which the first few are written
pub record Placed (bytes : Bytes) (len : ℕ) : Type 0 where
  pub within : len ≤ 188
  pub long : length bytes ≡ 188
  pub blank : drop len bytes ≡ replicate (188 - len) 0xFF

module _ (bytes : Bytes) (len k : ℕ) (more ys : Bytes) (is : ys ≡ more) (same : k ≡ length more) (h : Placed bytes len) (room : len + length more ≤ 188) where
  long_more : length ys ≡ length more
  long_more = ap length is

  pub placed : Placed (put_mid len k bytes ys) (len + length more)
  placed =
      let all = h.long in
      let n = long_more in
      record {
        within = room;
        long = simp (length-append, length-take, length-drop) (omega arith);
        blank =
            drop-put_mid len k bytes ys (len + length more) (omega arith) (omega arith) (n ∙ sym same)
            ∙ sym (drop-drop (length more) len bytes)
            ∙ ap (drop (length more)) h.blank
            ∙ drop-replicate (length more) (188 - len) 0xFF
            ∙ ap (λ m. replicate m 0xFF) (omega arith);
      }

-- a write within the front
take_set_in : (n i : ℕ) (l : Bytes) (a : ℕ) → i < n → take n (set l i a) ≡ set (take n l) i a
take_set_in zero i l a h = absurd (not-suc-le-zero h)
take_set_in (suc n) i [] a h = refl
take_set_in (suc n) zero (x ∷ l) a h = refl
take_set_in (suc n) (suc i) (x ∷ l) a h = ap (λ m. x ∷ m) (take_set_in n i l a (le_of_suc-le-suc h))

-- writes at 1 and 2 of what follows the first five bytes
pub behind_five : (w : Bytes) (a b : ℕ) → set (set w 6 a) 7 b ≡ take 5 w ++ set (set (drop 5 w) 1 a) 2 b
behind_five w a b =
    sym (take-append-drop 5 (set (set w 6 a) 7 b))
    ∙ (λ i. (take-set-le 5 (set w 6 a) 7 b (lit≤ tt) ∙ take-set-le 5 w 6 a (lit≤ tt)) i ++ (drop-set-add 5 (set w 6 a) 2 b ∙ ap (λ l. set l 2 b) (drop-set-add 5 w 1 a)) i)

module _ (bytes : Bytes) (len a b : ℕ) (h : Placed bytes len) (some : 8 ≤ len) where
  set_written : take len (set (set bytes 6 a) 7 b) ≡ take 5 (take len bytes) ++ set (set (drop 5 (take len bytes)) 1 a) 2 b
  set_written =
      take_set_in len 7 (set bytes 6 a) b (omega arith) ∙ ap (λ l. set l 7 b) (take_set_in len 6 bytes a (omega arith)) ∙ behind_five (take len bytes) a b

  pub length_written : a ≡ length_high (get_or bytes 6 0) (len - 4) → b ≡ (len - 4) % 0x100 → take len (set (set bytes 6 a) 7 b) ≡ take 5 (take len bytes) ++ with_length (drop 5 (take len bytes))
  unfolding with_length
  length_written ea eb =
      let w = take len bytes in
      let all : length w ≡ len = length-take-le len bytes (omega (arith, h.long, h.within)) in
      let count : len - 4 ≡ length (drop 5 w) + 1 = simp length-drop (omega arith) in
      let old : get_or bytes 6 0 ≡ byte (drop 5 w) 1 = sym (get_or-drop 5 w 1 0 ∙ get_or-take len bytes 6 0 (omega arith)) in
      set_written
      ∙ (λ i. take 5 w ++ set (set (drop 5 w) 1 ((ea ∙ (λ j. length_high (old j) (count j))) i)) 2 ((eb ∙ ap (λ n. n % 0x100) count) i))

-- a section that has its length, and then its CRC
pub closed_written : (w : Bytes) (after final : Bytes) (crc : ℕ) → 5 ≤ length w → after ≡ take 5 w ++ with_length (drop 5 w) → crc ≡ crc_of (drop 5 after) → final ≡ after ++ four_bytes crc → final ≡ closed w
unfolding closed sealed
closed_written w after final crc long ea ec ef =
    let five : length (take 5 w) ≡ 5 = length-take-le 5 w long in
    let section : drop 5 after ≡ with_length (drop 5 w) = ap (drop 5) ea ∙ drop_at (take 5 w) (with_length (drop 5 w)) 5 five in
    ef
    ∙ (λ i. ea i ++ four_bytes ((ec ∙ ap crc_of section) i))
    ∙ append_assoc (take 5 w) (with_length (drop 5 w)) (four_bytes (crc_of (with_length (drop 5 w))))
