-- What a line of a site log writes: words, parted by one space each, and the call that they are.
use Rattle.std.specs.Prelude.{◌≡◌, ℕ, ◌+◌, ◌-◌, ◌*◌, ◌^◌, Bool, true, cond, ◌&&◌, List, [], ◌∷◌, length, Some, None, Ok, Err, vec_items, codes, Option, Result, Vec, ◌==◌, nat_le, nat_lt}
use Rattle.std.specs.Option.{option_map, option_or}
use Rattle.std.specs.declared.alloc.Global.{Global}
use Rattle.std.specs.Str.{bytes_eq}
use Rattle.config.specs.Text.{Bytes, fields, all_digits, written}
use Rattle.sitelog.specs.Sites.{index_of}
use Rattle.sitelog.specs.declared.call.Call.{Call}
use Rattle.sitelog.specs.declared.call.Call.TheVariants as call
use Rattle.sitelog.specs.declared.call.Use.TheVariants as use_of
use Rattle.sitelog.specs.declared.fault.LineFault.{LineFault}
use Rattle.sitelog.specs.declared.fault.LineFault.TheVariants.{NoCall, FieldCount, NoNumber, TooLarge, NoHex, OddHex, NoKind, Memory}
use Rattle.sitelog.specs.declared.mounted.Kind.{Kind}
use Rattle.sitelog.specs.declared.mounted.Kind.TheVariants.{Strip, Folded}
use Rattle.sitelog.specs.declared.verb.Verb.{Verb}
use Rattle.sitelog.specs.declared.verb.Verb.TheVariants.{Power, Carrier, Hear, Loss, Record, Frame, Put, Empty, Read, Free, Bytes as Used, Tally}

-- ## Words

-- one or more decimal digits
abbrev pub digits : Bytes → Bool
digits w = all_digits w && nat_lt 0 (length w)

abbrev pub below : ℕ → ℕ → Option ℕ
below m n = cond (nat_lt n m) (Some n) None

-- the number that a word writes, below a bound
abbrev pub number_below : ℕ → Bytes → Option ℕ
number_below m w = cond (digits w) (below m (written w)) None

-- a time, or `-` for none
abbrev pub time_in : Bytes → Option (Option ℕ)
time_in w = cond (bytes_eq w (codes "-")) (Some None) (option_map Some (number_below (2 ^ 64) w))

abbrev pub kind_in : Bytes → Option Kind
kind_in w = cond (bytes_eq w (codes "strip")) (Some Strip) (cond (bytes_eq w (codes "folded")) (Some Folded) None)

-- a hex digit, in either case
abbrev pub hex_digit : ℕ → Option ℕ
hex_digit c =
    cond (nat_le 48 c && nat_le c 57) (Some (c - 48))
    (cond (nat_le 97 c && nat_le c 102) (Some (c - 97 + 10))
    (cond (nat_le 65 c && nat_le c 70) (Some (c - 65 + 10)) None))

-- the byte that two digits write
abbrev pub pair : Option ℕ → Option ℕ → Option ℕ
pair None l = None
pair (Some h) None = None
pair (Some h) (Some l) = Some (h * 16 + l)

-- one byte more in front of others
abbrev pub onto : Option ℕ → Option Bytes → Option Bytes
onto None r = None
onto (Some b) None = None
onto (Some b) (Some r) = Some (b ∷ r)

-- two digits for each byte
abbrev pub hex : Bytes → Option Bytes
hex [] = Some []
hex (h ∷ []) = None
hex (h ∷ l ∷ w) = onto (pair (hex_digit h) (hex_digit l)) (hex w)

-- bytes in hex; `-` for none, and an empty word writes nothing
abbrev pub bytes_of : Bytes → Option Bytes
bytes_of w = cond (bytes_eq w (codes "-")) (Some []) (cond (length w == 0) None (hex w))

-- this holds unless memory was wanting
abbrev pub UnlessMemory : LineFault → Type 0 → Type 0
UnlessMemory NoCall P = P
UnlessMemory FieldCount P = P
UnlessMemory (NoNumber field) P = P
UnlessMemory (TooLarge field) P = P
UnlessMemory NoHex P = P
UnlessMemory OddHex P = P
UnlessMemory NoKind P = P
UnlessMemory Memory P = Unit {0}

abbrev pub BytesSo : Bytes → Result (Vec ℕ Global) LineFault → Type 0
BytesSo w (Ok v) = bytes_of w ≡ Some (vec_items v)
BytesSo w (Err fault) = UnlessMemory fault (bytes_of w ≡ None)

-- ## Names of calls

abbrev pub adapter_verb : Bytes → Option Verb
adapter_verb w =
    cond (bytes_eq w (codes "power")) (Some Power)
    (cond (bytes_eq w (codes "hear")) (Some Hear)
    (cond (bytes_eq w (codes "loss")) (Some Loss)
    (cond (bytes_eq w (codes "record")) (Some Record)
    (cond (bytes_eq w (codes "frame")) (Some Frame)
    (cond (bytes_eq w (codes "tally")) (Some Tally) None)))))

abbrev pub carrier_verb : Bytes → Option Verb
carrier_verb w =
    cond (bytes_eq w (codes "carrier")) (Some Carrier)
    (cond (bytes_eq w (codes "put")) (Some Put)
    (cond (bytes_eq w (codes "empty")) (Some Empty)
    (cond (bytes_eq w (codes "read")) (Some Read)
    (cond (bytes_eq w (codes "free")) (Some Free)
    (cond (bytes_eq w (codes "bytes")) (Some Used) None)))))

abbrev pub verb_in : Bytes → Option Verb
verb_in w = option_or (adapter_verb w) (carrier_verb w)

-- ## Calls

-- A call as a line writes it: numbers for places, and bytes as they are.
pub data Said : Type 0 where
  powers : ℕ → Said
  mounts : ℕ → Kind → ℕ → Said
  hears : ℕ → Option ℕ → Bytes → Said
  loses : ℕ → Said
  records : ℕ → ℕ → ℕ → Said
  frames : ℕ → Said
  puts : ℕ → Bytes → Said
  empties : ℕ → Said
  reads : ℕ → ℕ → Said
  asks_free : ℕ → Said
  asks_bytes : ℕ → Said
  tallies : Said

abbrev pub said : Call → Said
said (call.Power entries) = powers entries
said (call.Carrier place kind bytes) = mounts (index_of place) kind bytes
said (call.Hear packet) = hears packet.parent packet.time (vec_items packet.bytes)
said (call.Loss parent) = loses parent
said (call.Record frame) = records frame.number frame.start frame.slots
said (call.Frame place) = frames (index_of place)
said (call.Use place (use_of.Put bytes)) = puts (index_of place) (vec_items bytes)
said (call.Use place use_of.Empty) = empties (index_of place)
said (call.Use place (use_of.Read index)) = reads (index_of place) index
said (call.Use place use_of.Free) = asks_free (index_of place)
said (call.Use place use_of.Bytes) = asks_bytes (index_of place)
said call.Tally = tallies

-- f of what is read, where all of it can be read
abbrev pub of_two : {A B D : Type 0} → (A → B → D) → Option A → Option B → Option D
of_two f None b = None
of_two f (Some x) None = None
of_two f (Some x) (Some y) = Some (f x y)

abbrev pub of_three : {A B C D : Type 0} → (A → B → C → D) → Option A → Option B → Option C → Option D
of_three f None b c = None
of_three f (Some x) b c = of_two (f x) b c

-- exactly no word, one, two or three, each read in its own way
abbrev pub no_word : {D : Type 0} → D → List Bytes → Option D
no_word f [] = Some f
no_word f (v ∷ ws) = None

abbrev pub one_word : {A D : Type 0} → (A → D) → (Bytes → Option A) → List Bytes → Option D
one_word f a [] = None
one_word f a (v ∷ []) = option_map f (a v)
one_word f a (v ∷ w ∷ ws) = None

abbrev pub two_words : {A B D : Type 0} → (A → B → D) → (Bytes → Option A) → (Bytes → Option B) → List Bytes → Option D
two_words f a b [] = None
two_words f a b (v ∷ []) = None
two_words f a b (v ∷ w ∷ []) = of_two f (a v) (b w)
two_words f a b (v ∷ w ∷ x ∷ ws) = None

abbrev pub three_words : {A B C D : Type 0} → (A → B → C → D) → (Bytes → Option A) → (Bytes → Option B) → (Bytes → Option C) → List Bytes → Option D
three_words f a b c [] = None
three_words f a b c (v ∷ []) = None
three_words f a b c (v ∷ w ∷ []) = None
three_words f a b c (v ∷ w ∷ x ∷ []) = of_three f (a v) (b w) (c x)
three_words f a b c (v ∷ w ∷ x ∷ y ∷ ws) = None

abbrev pub number : Bytes → Option ℕ
number = number_below (2 ^ 64)

abbrev pub short : Bytes → Option ℕ
short = number_below (2 ^ 32)

abbrev pub place : Bytes → Option ℕ
place = number_below 16

-- the call of a name with the words behind it
abbrev pub call_of : Verb → List Bytes → Option Said
call_of Power = one_word powers number
call_of Carrier = three_words mounts place kind_in number
call_of Hear = three_words hears number time_in bytes_of
call_of Loss = one_word loses number
call_of Record = three_words records short number short
call_of Frame = one_word frames place
call_of Put = two_words puts place bytes_of
call_of Empty = one_word empties place
call_of Read = two_words reads place number
call_of Free = one_word asks_free place
call_of Used = one_word asks_bytes place
call_of Tally = no_word tallies

abbrev pub call_if : Option Verb → List Bytes → Option Said
call_if None ws = None
call_if (Some verb) ws = call_of verb ws

abbrev pub call_by : List Bytes → Option Said
call_by [] = None
call_by (w ∷ ws) = call_if (verb_in w) ws

-- the call that a line writes, if it writes one
abbrev pub call_in : Bytes → Option Said
call_in line = call_by (fields line)

-- an empty line, or a comment, which `#` begins
abbrev pub says_nothing : Bytes → Bool
says_nothing [] = true
says_nothing (b ∷ line) = b == 35

-- What reading answers where this is written: the call, or a fault where it is none or memory is wanting.
abbrev pub ReadAs : Option Said → Result Call LineFault → Type 0
ReadAs o (Ok c) = o ≡ Some (said c)
ReadAs o (Err fault) = UnlessMemory fault (o ≡ None)
