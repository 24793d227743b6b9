-- A text cut into lines and fields, and the number that a field writes.
use Rattle.std.specs.Prelude.{ℕ, ◌+◌, ◌-◌, ◌*◌, Bool, true, cond, not, ◌&&◌, ◌||◌, List, [], ◌∷◌, length, Some, None, Option, ◌==◌, nat_le, nat_lt, slice_index}

abbrev pub Bytes : Type 0
Bytes = List ℕ

-- one more byte in front of the first piece
abbrev pub onto : ℕ → List Bytes → List Bytes
onto b [] = (b ∷ []) ∷ []
onto b (p ∷ ps) = (b ∷ p) ∷ ps

-- The pieces of a text between separators; `last` is what a text gives that ends here.
abbrev pub cut : ℕ → List Bytes → Bytes → List Bytes
cut separator last [] = last
cut separator last (b ∷ bs) = cond (b == separator) ([] ∷ cut separator last bs) (onto b (cut separator last bs))

-- a line feed ends a line; the last line may lack it
unfoldable pub lines : Bytes → List Bytes
lines text = cut 10 [] text

-- one space parts fields; an empty line is one empty field
unfoldable pub fields : Bytes → List Bytes
fields line = cut 32 ([] ∷ []) line

abbrev pub is_digit : ℕ → Bool
is_digit b = nat_le 48 b && nat_le b 57

abbrev pub all_digits : Bytes → Bool
all_digits [] = true
all_digits (b ∷ bs) = is_digit b && all_digits bs

-- 1 to 10 decimal digits, the first not `0` unless it is the only one
unfoldable pub is_number : Bytes → Bool
is_number field =
    (nat_lt 0 (length field) && nat_le (length field) 10)
    && (all_digits field && (length field == 1 || not (slice_index field 0 == 48)))

-- the number that decimal digits write, after those of n
abbrev pub written_after : ℕ → Bytes → ℕ
written_after n [] = n
written_after n (b ∷ bs) = written_after (n * 10 + (b - 48)) bs

unfoldable pub written : Bytes → ℕ
written field = written_after 0 field

unfoldable pub number : Bytes → Option ℕ
number field = cond (is_number field) (Some (written field)) None
