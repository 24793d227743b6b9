-- CRC-32 by whole bytes: a step of the register is linear, so a table of 256 entries does, and a CRC over its own bytes is 0.
use Rattle.std.proofs.Common.{◌≡◌, ℕ, ◌+◌, ◌*◌, ◌/◌, ◌%◌, ◌^◌, ◌<◌, Bool, T, eqb, ◌⊎◌, List, [], ◌∷◌, ◌++◌, length, get_or, sym, refl, ap, ◌∙◌, inl, inr, ⊎_elim, add-zero, zero-mul, arith, lit<, eqb→eq, length-append}
use native.Mathlib.Nat.{add-mod}
use lib.Bits.{bit_xor, xor_comm, xor_assoc, xor_self, xor_zero_l, xor_zero_r, xor_shr, xor_mod, xor_block, xor_lt}
use Rattle.std.proofs.lemmas.Nat.{shr-shr, shr_split}
use Rattle.std.proofs.lemmas.Bool.{cases_lt}
use Rattle.psi.specs.Packet.{Bytes}
use Rattle.psi.specs.Crc.{polynomial, crc_bit, bit_of, crc_byte, crc_from, crc_of, four_bytes, sealed, Tabled}
use Rattle.psi.proofs.Tables.{every, at}

interchange : (a b c d : ℕ) → bit_xor (bit_xor a b) (bit_xor c d) ≡ bit_xor (bit_xor a c) (bit_xor b d)
interchange a b c d =
    xor_assoc a b (bit_xor c d)
    ∙ ap (bit_xor a) (sym (xor_assoc b c d) ∙ ap (λ n. bit_xor n d) (xor_comm b c) ∙ xor_assoc c b d)
    ∙ sym (xor_assoc a c (bit_xor b d))

doubled : (a b : ℕ) → bit_xor a b * 2 ≡ bit_xor (a * 2) (b * 2)
doubled a b =
    sym (add-zero (bit_xor a b * 2)) ∙ sym (xor_block 1 a b 0 0 (lit< tt) (lit< tt)) ∙ (λ i. bit_xor (add-zero (a * 2) i) (add-zero (b * 2) i))

shifted : (a b : ℕ) → bit_xor a b * 2 % 2 ^ 32 ≡ bit_xor (a * 2 % 2 ^ 32) (b * 2 % 2 ^ 32)
shifted a b = ap (λ n. n % 2 ^ 32) (doubled a b) ∙ xor_mod (a * 2) (b * 2) 32

two : (n : ℕ) → n < 2 → (n ≡ 0) ⊎ (n ≡ 1)
two n h = ⊎_elim (λ l. inl (omega arith)) (λ l. inr (omega arith)) (cases_lt n 1)

-- a bit times a number
times_by : (p q m : ℕ) → (p ≡ 0) ⊎ (p ≡ 1) → (q ≡ 0) ⊎ (q ≡ 1) → bit_xor p q * m ≡ bit_xor (p * m) (q * m)
times_by p q m (inl e) (inl f) = rw (e, f, zero-mul m)
times_by p q m (inl e) (inr f) = rw (e, f, zero-mul m, xor_zero_l (1 * m))
times_by p q m (inr e) (inl f) = rw (e, f, zero-mul m, xor_zero_r (1 * m))
times_by p q m (inr e) (inr f) = rw (e, f, xor_self (1 * m)) (zero-mul m)

times : (p q m : ℕ) → p < 2 → q < 2 → bit_xor p q * m ≡ bit_xor (p * m) (q * m)
times p q m hp hq = times_by p q m (two p hp) (two q hq)

-- a register whose bits are those of two others, each added to the other's
record Sum (u v w : ℕ) : Type 0 where
  is : u ≡ bit_xor v w
  left : v < 2 ^ 32
  right : w < 2 ^ 32

pub bit_below : (r b : ℕ) → r < 2 ^ 32 → b < 2 → crc_bit r b < 2 ^ 32
unfolding crc_bit
bit_below r b hr hb =
    let top : bit_xor (r / 2 ^ 31) b < 2 ^ 1 = xor_lt 1 (r / 2 ^ 31) b (omega arith) hb in
    xor_lt 32 (r * 2 % 2 ^ 32) (bit_xor (r / 2 ^ 31) b * polynomial) (omega arith) (omega arith)

linear : (u v w b c d : ℕ) → Sum u v w → b ≡ bit_xor c d → c < 2 → d < 2 → Sum (crc_bit u b) (crc_bit v c) (crc_bit w d)
unfolding crc_bit
linear u v w b c d s e hc hd =
    let hv : bit_xor (v / 2 ^ 31) c < 2 = xor_lt 1 (v / 2 ^ 31) c (omega (arith, s.left)) hc in
    let hw : bit_xor (w / 2 ^ 31) d < 2 = xor_lt 1 (w / 2 ^ 31) d (omega (arith, s.right)) hd in
    let moved : u * 2 % 2 ^ 32 ≡ bit_xor (v * 2 % 2 ^ 32) (w * 2 % 2 ^ 32) = ap (λ n. n * 2 % 2 ^ 32) s.is ∙ shifted v w in
    let tops : bit_xor (u / 2 ^ 31) b ≡ bit_xor (bit_xor (v / 2 ^ 31) c) (bit_xor (w / 2 ^ 31) d) =
    (λ i. bit_xor ((ap (λ n. n / 2 ^ 31) s.is ∙ xor_shr v w 31) i) (e i)) ∙ interchange (v / 2 ^ 31) (w / 2 ^ 31) c d in
    let added : bit_xor (u / 2 ^ 31) b * polynomial ≡ bit_xor (bit_xor (v / 2 ^ 31) c * polynomial) (bit_xor (w / 2 ^ 31) d * polynomial) =
    ap (λ n. n * polynomial) tops ∙ times (bit_xor (v / 2 ^ 31) c) (bit_xor (w / 2 ^ 31) d) polynomial hv hw in
    record {
      is = (λ i. bit_xor (moved i) (added i)) ∙ interchange (v * 2 % 2 ^ 32) (w * 2 % 2 ^ 32) (bit_xor (v / 2 ^ 31) c * polynomial) (bit_xor (w / 2 ^ 31) d * polynomial);
      left = bit_below v c s.left hc;
      right = bit_below w d s.right hd;
    }

bit_sum : (x y k : ℕ) → bit_of (2 ^ k) (bit_xor x y) ≡ bit_xor (bit_of (2 ^ k) x) (bit_of (2 ^ k) y)
bit_sum x y k = ap (λ n. n % 2) (xor_shr x y k) ∙ xor_mod (x / 2 ^ k) (y / 2 ^ k) 1

bit_small : (w x : ℕ) → bit_of w x < 2
bit_small w x = omega arith

-- the registers after a byte that is the sum of two bytes
byte_linear : (u v w x y z : ℕ) → Sum u v w → x ≡ bit_xor y z → Sum (crc_byte u x) (crc_byte v y) (crc_byte w z)
unfolding crc_byte
byte_linear u v w x y z s e =
    let next : (k u v w : ℕ) → Sum u v w → Sum (crc_bit u (bit_of (2 ^ k) x)) (crc_bit v (bit_of (2 ^ k) y)) (crc_bit w (bit_of (2 ^ k) z)) =
    λ k u v w t. linear u v w _ _ _ t (ap (bit_of (2 ^ k)) e ∙ bit_sum y z k) (bit_small (2 ^ k) y) (bit_small (2 ^ k) z) in
    next 0 _ _ _ (next 1 _ _ _ (next 2 _ _ _ (next 3 _ _ _ (next 4 _ _ _ (next 5 _ _ _ (next 6 _ _ _ (next 7 u v w s)))))))

-- a bit that is the register's own highest one moves the register up, and adds nothing
own_bit : (r b : ℕ) → b ≡ r / 2 ^ 31 → crc_bit r b ≡ r * 2 % 2 ^ 32
unfolding crc_bit
own_bit r b e =
    let none : bit_xor (r / 2 ^ 31) b ≡ 0 = ap (bit_xor (r / 2 ^ 31)) e ∙ xor_self (r / 2 ^ 31) in
    ap (λ n. bit_xor (r * 2 % 2 ^ 32) (n * polynomial)) none ∙ xor_zero_r (r * 2 % 2 ^ 32)

up : (n : ℕ) → n % 2 ^ 32 * 2 % 2 ^ 32 ≡ n * 2 % 2 ^ 32
up n =
    ap (λ m. m % 2 ^ 32) (let twice : n % 2 ^ 32 * 2 ≡ n % 2 ^ 32 + n % 2 ^ 32 = omega arith in twice)
    ∙ sym (add-mod n n (2 ^ 32))
    ∙ ap (λ m. m % 2 ^ 32) (let twice : n + n ≡ n * 2 = omega arith in twice)

-- so does a byte that is the register's own highest one
pub own_byte : (r x : ℕ) → r < 2 ^ 32 → x ≡ r / 2 ^ 24 → crc_byte r x ≡ r * 2 ^ 8 % 2 ^ 32
unfolding crc_byte
own_byte r x h e =
    let step : (u b n : ℕ) → u ≡ n → b ≡ n / 2 ^ 31 → crc_bit u b ≡ n * 2 % 2 ^ 32 = λ u b n is top. ap (λ m. crc_bit m b) is ∙ own_bit n b top in
    let r7 = step r (bit_of 0x80 x) r refl (omega arith) in
    let r6 = step _ (bit_of 64 x) (r * 2 % 2 ^ 32) r7 (omega arith) in
    let r5 = step _ (bit_of 32 x) (r * 4 % 2 ^ 32) (r6 ∙ up (r * 2) ∙ ap (λ n. n % 2 ^ 32) (omega arith)) (omega arith) in
    let r4 = step _ (bit_of 16 x) (r * 8 % 2 ^ 32) (r5 ∙ up (r * 4) ∙ ap (λ n. n % 2 ^ 32) (omega arith)) (omega arith) in
    let r3 = step _ (bit_of 8 x) (r * 16 % 2 ^ 32) (r4 ∙ up (r * 8) ∙ ap (λ n. n % 2 ^ 32) (omega arith)) (omega arith) in
    let r2 = step _ (bit_of 4 x) (r * 32 % 2 ^ 32) (r3 ∙ up (r * 16) ∙ ap (λ n. n % 2 ^ 32) (omega arith)) (omega arith) in
    let r1 = step _ (bit_of 2 x) (r * 64 % 2 ^ 32) (r2 ∙ up (r * 32) ∙ ap (λ n. n % 2 ^ 32) (omega arith)) (omega arith) in
    step _ (bit_of 1 x) (r * 128 % 2 ^ 32) (r1 ∙ up (r * 64) ∙ ap (λ n. n % 2 ^ 32) (omega arith)) (omega arith)
    ∙ up (r * 128) ∙ ap (λ n. n % 2 ^ 32) (omega arith)

pub byte_below : (r x : ℕ) → r < 2 ^ 32 → crc_byte r x < 2 ^ 32
unfolding crc_byte
byte_below r x h =
    let next : (w r : ℕ) → r < 2 ^ 32 → crc_bit r (bit_of w x) < 2 ^ 32 = λ w r l. bit_below r (bit_of w x) l (bit_small w x) in
    next 1 _ (next 2 _ (next 4 _ (next 8 _ (next 0x10 _ (next 0x20 _ (next 0x40 _ (next 0x80 r h)))))))

-- a byte by the table: what the register's highest byte and the byte that comes do together, and the rest of the register moved up
pub by_table : (r x : ℕ) → r < 2 ^ 32 → x < 2 ^ 8 → bit_xor (crc_byte (bit_xor (r / 2 ^ 24) x * 2 ^ 24) 0) (r * 2 ^ 8 % 2 ^ 32) ≡ crc_byte r x
by_table r x hr hx =
    let high = r / 2 ^ 24 in
    let low = r % 2 ^ 24 in
    let both = bit_xor high x in
    let small : both < 2 ^ 8 = xor_lt 8 high x (omega arith) hx in
    let back : bit_xor both x ≡ high = xor_assoc high x x ∙ ap (bit_xor high) (xor_self x) ∙ xor_zero_r high in
    let split : bit_xor (both * 2 ^ 24 + 0) (x * 2 ^ 24 + low) ≡ r =
    xor_block 24 both x 0 low (lit< tt) (omega arith) ∙ (λ i. back i * 2 ^ 24 + xor_zero_l low i) ∙ omega arith in
    let parts : Sum r (both * 2 ^ 24) (x * 2 ^ 24 + low) =
    record { is = sym split ∙ ap (λ n. bit_xor n (x * 2 ^ 24 + low)) (add-zero (both * 2 ^ 24)); left = omega arith; right = omega arith } in
    let sum = byte_linear r (both * 2 ^ 24) (x * 2 ^ 24 + low) x 0 x parts (sym (xor_zero_l x)) in
    let own : crc_byte (x * 2 ^ 24 + low) x ≡ r * 2 ^ 8 % 2 ^ 32 = own_byte (x * 2 ^ 24 + low) x (omega arith) (omega arith) ∙ omega arith in
    ap (bit_xor (crc_byte (both * 2 ^ 24) 0)) (sym own) ∙ sym sum.is

pub from_append : (r : ℕ) (xs ys : Bytes) → crc_from r (xs ++ ys) ≡ crc_from (crc_from r xs) ys
from_append r [] ys = refl
from_append r (x ∷ xs) ys = from_append (crc_byte r x) xs ys

pub from_below : (r : ℕ) (xs : Bytes) → r < 2 ^ 32 → crc_from r xs < 2 ^ 32
from_below r [] h = h
from_below r (x ∷ xs) h = from_below (crc_byte r x) xs (byte_below r x h)

pub crc_below : (xs : Bytes) → crc_of xs < 2 ^ 32
unfolding crc_of
crc_below xs = from_below 0xFFFFFFFF xs (lit< tt)

-- a register's own four bytes bring it to 0
own_bytes : (r : ℕ) → r < 2 ^ 32 → crc_from r (four_bytes r) ≡ 0
own_bytes r h =
    let step : (u n x : ℕ) → u ≡ n → n < 2 ^ 32 → x ≡ n / 2 ^ 24 → crc_byte u x ≡ n * 2 ^ 8 % 2 ^ 32 =
    λ u n x is l top. ap (λ m. crc_byte m x) is ∙ own_byte n x l top in
    let r3 = step r r (r / 2 ^ 24 % 2 ^ 8) refl h (omega arith) in
    let r2 = step _ (r * 2 ^ 8 % 2 ^ 32) (r / 2 ^ 16 % 2 ^ 8) r3 (omega arith) (omega arith) in
    let r1 = step _ (r * 2 ^ 16 % 2 ^ 32) (r / 2 ^ 8 % 2 ^ 8) (r2 ∙ omega arith) (omega arith) (omega arith) in
    step _ (r * 2 ^ 24 % 2 ^ 32) (r % 2 ^ 8) (r1 ∙ omega arith) (omega arith) (omega arith) ∙ omega arith

pub length_sealed : (xs : Bytes) → length (sealed xs) ≡ length xs + 4
unfolding sealed
length_sealed xs = length-append xs (four_bytes (crc_of xs))

pub crc_sealed : (xs : Bytes) → crc_of (sealed xs) ≡ 0
unfolding crc_of sealed
crc_sealed xs =
    from_append 0xFFFFFFFF xs (four_bytes (crc_of xs)) ∙ own_bytes (crc_of xs) (crc_below xs)

-- an entry is what its place leaves
unfoldable pub right : ℕ → ℕ → Bool
right k x = eqb x (crc_byte (k * 2 ^ 24) 0)

pub tabled : (table : List ℕ) → T (every right 0 table) → Tabled table
unfolding right
tabled table t = record { entries = λ k h. eqb→eq (get_or table k 0) (crc_byte (k * 2 ^ 24) 0) (at right table t k h) }

-- four bytes make up the number that they are of
pub four_joined : (c : ℕ) → c < 2 ^ 32 → c / 2 ^ 24 % 2 ^ 8 * 2 ^ 24 + c / 2 ^ 16 % 2 ^ 8 * 2 ^ 16 + c / 2 ^ 8 % 2 ^ 8 * 2 ^ 8 + c % 2 ^ 8 ≡ c
four_joined c h =
    let a = c / 2 ^ 8 in
    let b = c / 2 ^ 16 in
    let d = c / 2 ^ 24 in
    let ea : a * 2 ^ 8 + c % 2 ^ 8 ≡ c = omega arith in
    let eb : b * 2 ^ 8 + a % 2 ^ 8 ≡ a = ap (λ n. n * 2 ^ 8 + a % 2 ^ 8) (sym (shr-shr c 8 8)) ∙ shr_split a 8 in
    let ed : d * 2 ^ 8 + b % 2 ^ 8 ≡ b = ap (λ n. n * 2 ^ 8 + b % 2 ^ 8) (sym (shr-shr c 16 8)) ∙ shr_split b 8 in
    let small : d % 2 ^ 8 ≡ d = omega arith in
    omega (arith, ea, eb, ed, small)
