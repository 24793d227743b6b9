-- Streams one after the other: how they are read, and what is written of them.
use Rattle.std.proofs.Common.{◌≡◌, ℕ, zero, suc, ◌+◌, ◌/◌, ◌%◌, ◌<◌, ◌≤◌, cond, leb, List, [], ◌∷◌, ◌++◌, length, take, drop, Some, None, Option, sym, refl, ap, ◌∙◌, append_assoc, not-suc-le-zero, arith, length-drop}
use Rattle.std.specs.List.{flat_map}
use Rattle.std.specs.Option.{option_map}
use Rattle.std.proofs.lemmas.List.{length-take-le}
use Rattle.std.proofs.lemmas.Bool.{cond-true, cond-false, le-leb, lt-leb}
use Rattle.config.specs.declared.row.Row.{Row}
use Rattle.psi.specs.Lookup.{out_of}
use Rattle.psi.specs.Packet.{Bytes, byte, pid_in, pid_byte, pid_high, with_pid}
use Rattle.psi.specs.Sections.{length_in, length_byte}
use Rattle.psi.specs.Pmt.{Stream, stream_bytes, stream_length, stream_of, streams_in, streams_of, moved, moved_all, StreamsWritten}

-- as many turns as there are bytes are enough
enough : (bs : Bytes) (k j : ℕ) → length bs ≤ k → length bs ≤ j → streams_in k bs ≡ streams_in j bs
enough [] k j h g = refl
enough (b ∷ bs) zero j h g = absurd (not-suc-le-zero h)
enough (b ∷ bs) (suc k) zero h g = absurd (not-suc-le-zero g)
enough (b ∷ bs) (suc k) (suc j) h g =
    let left : length (drop (stream_length (b ∷ bs)) (b ∷ bs)) ≤ k = simp length-drop (omega arith) in
    let left' : length (drop (stream_length (b ∷ bs)) (b ∷ bs)) ≤ j = simp length-drop (omega arith) in
    ap (λ o. cond (leb (stream_length (b ∷ bs)) (length (b ∷ bs))) (option_map (λ es. stream_of (b ∷ bs) ∷ es) o) None)
    (enough (drop (stream_length (b ∷ bs)) (b ∷ bs)) k j left left')

-- the first stream, and those behind it
pub streams_step : (bs : Bytes) → 0 < length bs
    → streams_of bs ≡ cond (leb (stream_length bs) (length bs)) (option_map (λ es. stream_of bs ∷ es) (streams_of (drop (stream_length bs) bs))) None
unfolding streams_of
streams_step [] h = absurd (not-suc-le-zero h)
streams_step (b ∷ bs) h =
    let rest = drop (stream_length (b ∷ bs)) (b ∷ bs) in
    let left : length rest ≤ length bs = simp length-drop (omega arith) in
    ap (λ o. cond (leb (stream_length (b ∷ bs)) (length (b ∷ bs))) (option_map (λ es. stream_of (b ∷ bs) ∷ es) o) None)
    (enough rest (length bs) (length rest) left (omega arith))

pub streams_none : (bs : Bytes) → 0 < length bs → length bs < stream_length bs → streams_of bs ≡ None
streams_none bs h short = streams_step bs h ∙ cond-false _ _ None (lt-leb (stream_length bs) (length bs) short)

pub streams_some : (bs : Bytes) → 0 < length bs → stream_length bs ≤ length bs → streams_of bs ≡ option_map (λ es. stream_of bs ∷ es) (streams_of (drop (stream_length bs) bs))
streams_some bs h fit = streams_step bs h ∙ cond-true _ _ None (le-leb (stream_length bs) (length bs) fit)

-- a stream with another PID is the stream's bytes with another PID
pub moved_bytes : (bs : Bytes) (out : ℕ) → stream_length bs ≤ length bs → byte bs 4 < 0x100
    → stream_bytes (record { type = byte bs 0; pid_flags = byte bs 1 / 0x20; pid = out; info_flags = byte bs 3 / 0x10; info = take (length_in (byte bs 3) (byte bs 4)) (drop 5 bs) })
    ≡ with_pid out (take (stream_length bs) bs)
unfolding with_pid
moved_bytes [] out fit low = absurd (omega arith)
moved_bytes (a ∷ []) out fit low = absurd (omega arith)
moved_bytes (a ∷ b ∷ []) out fit low = absurd (omega arith)
moved_bytes (a ∷ b ∷ c ∷ []) out fit low = absurd (omega arith)
moved_bytes (a ∷ b ∷ c ∷ d ∷ []) out fit low = absurd (omega arith)
moved_bytes (a ∷ b ∷ c ∷ d ∷ e ∷ rest) out fit low =
    let n = length_in d e in
    let count : length (take n rest) ≡ n = length-take-le n rest (omega arith) in
    let five : 5 + n ≡ suc (suc (suc (suc (suc n)))) = omega arith in
    let high : length_byte (d / 0x10) n ≡ d = omega arith in
    let last : n % 0x100 ≡ e = omega arith in
    (λ i. a ∷ pid_byte (b / 0x20) out ∷ out % 0x100 ∷ (ap (length_byte (d / 0x10)) count ∙ high) i ∷ (ap (λ m. m % 0x100) count ∙ last) i ∷ take n rest)
    ∙ sym (ap (λ m. with_pid out (take m (a ∷ b ∷ c ∷ d ∷ e ∷ rest))) five)

-- some bytes with another PID, from the front on
pub with_pid_front : (s : Bytes) (pid : ℕ) → 3 ≤ length s → byte s 0 ∷ pid_high (byte s 1) pid ∷ pid % 0x100 ∷ drop 3 s ≡ with_pid pid s
unfolding with_pid
with_pid_front [] pid h = absurd (omega arith)
with_pid_front (a ∷ []) pid h = absurd (omega arith)
with_pid_front (a ∷ b ∷ []) pid h = absurd (omega arith)
with_pid_front (a ∷ b ∷ c ∷ rest) pid h = refl

mapped_mapped : {X Y Z : Type 0} (f : Y → Z) (g : X → Y) (o : Option X) → option_map f (option_map g o) ≡ option_map (λ x. f (g x)) o
mapped_mapped f g None = refl
mapped_mapped f g (Some x) = refl

mapped_same : {X Y : Type 0} (f g : X → Y) → ((x : X) → f x ≡ g x) → (o : Option X) → option_map f o ≡ option_map g o
mapped_same f g same None = refl
mapped_same f g same (Some x) = ap Some (same x)

module _ (rows : List Row) (parent : ℕ) where
  -- what is written once these streams are added to it
  abbrev pub adds : Bytes → List Stream → Bytes
  adds w es = w ++ flat_map stream_bytes (moved_all rows parent es)

  module _ (w : Bytes) (rest : Bytes) (whole : Option Bytes) (some : 0 < length rest) (fit : stream_length rest ≤ length rest) (inv : option_map (adds w) (streams_of rest) ≡ whole) where
    first_added : option_map (λ es. adds w (stream_of rest ∷ es)) (streams_of (drop (stream_length rest) rest)) ≡ whole
    first_added =
        sym (mapped_mapped (adds w) (λ es. stream_of rest ∷ es) (streams_of (drop (stream_length rest) rest)))
        ∙ ap (option_map (adds w)) (sym (streams_some rest some fit))
        ∙ inv

    -- a stream that has a row
    pub one_moved : (after : Bytes) (out : ℕ) → byte rest 4 < 0x100 → out_of rows parent (pid_in (byte rest 1) (byte rest 2)) ≡ Some out → after ≡ w ++ with_pid out (take (stream_length rest) rest)
        → option_map (adds after) (streams_of (drop (stream_length rest) rest)) ≡ whole
    one_moved after out low is ea =
        mapped_same (adds after) (λ es. adds w (stream_of rest ∷ es)) same (streams_of (drop (stream_length rest) rest)) ∙ first_added
      where
        same : (es : List Stream) → adds after es ≡ adds w (stream_of rest ∷ es)
        same es =
            let more = flat_map stream_bytes (moved_all rows parent es) in
            ap (λ l. l ++ more) (ea ∙ ap (λ l. w ++ l) (sym (moved_bytes rest out fit low)))
            ∙ append_assoc w _ more
            ∙ sym (ap (λ o. w ++ flat_map stream_bytes (moved o (stream_of rest) ++ moved_all rows parent es)) is)

    -- a stream that has none
    pub one_gone : out_of rows parent (pid_in (byte rest 1) (byte rest 2)) ≡ None → option_map (adds w) (streams_of (drop (stream_length rest) rest)) ≡ whole
    one_gone is = mapped_same (adds w) (λ es. adds w (stream_of rest ∷ es)) same (streams_of (drop (stream_length rest) rest)) ∙ first_added
      where
        same : (es : List Stream) → adds w es ≡ adds w (stream_of rest ∷ es)
        same es = sym (ap (λ o. w ++ flat_map stream_bytes (moved o (stream_of rest) ++ moved_all rows parent es)) is)

  -- no streams fill the bytes
  pub ended_wrong : (w after : Bytes) (o : Option (List Stream)) → option_map (adds w) o ≡ None → StreamsWritten rows parent w o after None
  ended_wrong w after None e = refl
  ended_wrong w after (Some es) e = let z : ◌≡◌ {A = ℕ} 0 1 = cc in absurd (omega arith)

  -- all are written
  pub ended_right : (w after : Bytes) (o : Option (List Stream)) → option_map (adds w) o ≡ Some after → StreamsWritten rows parent w o after (Some tt)
  ended_right w after None e = let z : ◌≡◌ {A = ℕ} 0 1 = cc in absurd (omega arith)
  ended_right w after (Some es) e = (refl, (let s : after ≡ adds w es = cc in s))
