-- What a patchable packet is made of.
use denote.Enum.Bare.{sameb}
use Rattle.std.specs.Bool.{then_some}
use Rattle.std.proofs.Common.{◌≡◌, ℕ, suc, ◌+◌, ◌-◌, ◌/◌, ◌%◌, ◌<◌, ◌≤◌, Bool, true, false, cond, ◌&&◌, eqb, List, [], ◌∷◌, ◌++◌, length, take, drop, Some, None, Option, unwrap_or, refl, ap, ◌∙◌, ⊎_elim, append_assoc, arith, lit<, length-drop, MatchOption, subst, sym, not, true≢false}
use Rattle.std.specs.List.{flat_map}
use Rattle.std.specs.Option.{option_map}
use Rattle.std.proofs.lemmas.List.{length-take-le, get_or-take}
use Rattle.std.proofs.lemmas.Bool.{and_parts, and_from, eqb-true, eq-eqb, leb-true, le-leb, cond-true, cond-false, both_ways, cases_Bool}
use Rattle.config.specs.declared.row.Row.{Row}
use Rattle.psi.specs.Lookup.{out_of}
use Rattle.psi.specs.Packet.{Bytes, byte, good_packet, start_of, scrambling_of, adaptation_in, adaptation_of, payload_only, pid_in, pid_byte, pid_high, filled}
use Rattle.psi.specs.Sections.{section_length, length_in, length_byte, with_length, closed}
use Rattle.psi.specs.Crc.{sealed}
use Rattle.psi.specs.Pmt.{Stream, Pmt, stream_bytes, section_body, section_bytes, pmt_bytes, section_with, pmt_with, streams_of, stream_part, moved_all, patch_section, patch_pmt, patched, StreamsWritten, no_pcr, info_length, fixed_part, before_crc, right_crc, section_of, opens, pmt_of}
use Rattle.psi.specs.declared.packet.Adaptation.{Adaptation}
use Rattle.psi.specs.declared.packet.Adaptation.TheVariants.{Reserved, Payload, Field, Both}
use Rattle.psi.specs.contracts.packet.Adaptation.{the_type}
use Rattle.psi.proofs.Packets.{good_parts}

-- the fixed part of a section that is whole
pub record Fixed (bs : Bytes) : Type 0 where
  pub table : byte bs 0 ≡ 0x02
  pub syntax : 0x80 ≤ byte bs 1
  pub least : 13 ≤ section_length bs
  pub most : section_length bs ≤ 180
  pub whole : section_length bs + 3 ≤ length bs
  pub first : byte bs 6 ≡ 0x00
  pub last : byte bs 7 ≡ 0x00
  pub room : info_length bs + 13 ≤ section_length bs

pub fixed_parts : (bs : Bytes) → fixed_part bs ≡ true → Fixed bs
unfolding fixed_part
fixed_parts bs t =
    let p0 = and_parts _ _ t in
    let p1 = and_parts _ _ p0.1 in
    let p2 = and_parts _ _ p1.1 in
    let p3 = and_parts _ _ p2.1 in
    let p4 = and_parts _ _ p3.1 in
    let p5 = and_parts _ _ p4.1 in
    let p6 = and_parts _ _ p5.1 in
    record {
      table = eqb-true _ _ p0.0;
      syntax = leb-true _ _ p1.0;
      least = leb-true _ _ p2.0;
      most = leb-true _ _ p3.0;
      whole = leb-true _ _ p4.0;
      first = eqb-true _ _ p5.0;
      last = eqb-true _ _ p6.0;
      room = leb-true _ _ p6.1;
    }

pub fixed_from : (bs : Bytes) → Fixed bs → fixed_part bs ≡ true
unfolding fixed_part
fixed_from bs f =
    and_from _ _ (eq-eqb _ _ f.table)
    (and_from _ _ (le-leb _ _ f.syntax)
    (and_from _ _ (le-leb _ _ f.least)
    (and_from _ _ (le-leb _ _ f.most)
    (and_from _ _ (le-leb _ _ f.whole)
    (and_from _ _ (eq-eqb _ _ f.first)
    (and_from _ _ (eq-eqb _ _ f.last) (le-leb _ _ f.room)))))))

pub fixed_not : (bs : Bytes) → (Fixed bs → ⊥) → fixed_part bs ≡ false
fixed_not bs none = ⊎_elim (λ t. absurd (none (fixed_parts bs t))) (λ f. f) (cases_Bool (fixed_part bs))

-- the section but for its CRC has as many bytes as section_length says
pub length_before_crc : (bs : Bytes) → Fixed bs → length (before_crc bs) ≡ section_length bs - 1
length_before_crc bs f = length-take-le (section_length bs - 1) bs (omega (arith, f.whole))

pub byte_before_crc : (bs : Bytes) (k : ℕ) → Fixed bs → k < 12 → byte (before_crc bs) k ≡ byte bs k
byte_before_crc bs k f h = get_or-take (section_length bs - 1) bs k 0 (omega (arith, f.least))

pub info_before_crc : (bs : Bytes) → Fixed bs → info_length (before_crc bs) ≡ info_length bs
info_before_crc bs f = λ i. length_in (byte_before_crc bs 10 f (lit< tt) i) (byte_before_crc bs 11 f (lit< tt) i)

pub room_before_crc : (bs : Bytes) → Fixed bs → (12 + info_length (before_crc bs) ≤ length (before_crc bs)) × (length (before_crc bs) ≤ 179)
room_before_crc bs f =
    let n = length_before_crc bs f in
    let m = info_before_crc bs f in
    (omega (arith, f.room), omega (arith, f.most))

-- the fixed part, descriptors and streams of a section, written one after the other
pub one_after_other : (w a b c d : Bytes) → (((w ++ a) ++ b) ++ c) ++ d ≡ w ++ (a ++ (b ++ (c ++ d)))
one_after_other w a b c d = simp append_assoc

-- the two bytes of a descriptor length, from the descriptors
pub info_bytes : (s : Bytes) → 12 + info_length s ≤ length s → byte s 11 < 0x100
    → (byte s 10 ≡ length_byte (byte s 10 / 0x10) (length (take (info_length s) (drop 12 s)))) × (byte s 11 ≡ length (take (info_length s) (drop 12 s)) % 0x100)
info_bytes s room low =
    let count : length (take (info_length s) (drop 12 s)) ≡ info_length s = length-take-le (info_length s) (drop 12 s) (simp length-drop (omega arith)) in
    (omega arith, omega arith)

pub section_shape : (rows : List Row) (row : Row) (w s before : Bytes) (high low pcr : ℕ) (es : List Stream)
    → before ≡ ((w ++ (0x02 ∷ byte s 1 ∷ byte s 2 ∷ high ∷ low ∷ byte s 5 ∷ 0x00 ∷ 0x00 ∷ [])) ++ (pid_high (byte s 8) pcr ∷ pcr % 0x100 ∷ byte s 10 ∷ byte s 11 ∷ [])) ++ take (info_length s) (drop 12 s)
    → high ≡ row.service / 0x100 % 0x100 → low ≡ row.service % 0x100 → pcr ≡ unwrap_or (out_of rows row.parent (pid_in (byte s 8) (byte s 9))) no_pcr
    → 12 + info_length s ≤ length s → byte s 11 < 0x100
    → before ++ flat_map stream_bytes (moved_all rows row.parent es) ≡ w ++ (0x02 ∷ byte s 1 ∷ byte s 2 ∷ section_body (patch_section rows row (section_with s es)))
section_shape rows row w s before high low pcr es eb eh el ep room small =
    let info : Bytes = take (info_length s) (drop 12 s) in
    let streams = flat_map stream_bytes (moved_all rows row.parent es) in
    let lengths = info_bytes s room small in
    ap (λ l. l ++ streams) eb
    ∙ one_after_other w _ _ info streams
    ∙ (λ i. w ++ (0x02 ∷ byte s 1 ∷ byte s 2 ∷ eh i ∷ el i ∷ byte s 5 ∷ 0x00 ∷ 0x00 ∷ pid_high (byte s 8) (ep i) ∷ ep i % 0x100 ∷ lengths.0 i ∷ lengths.1 i ∷ (info ++ streams)))

-- from the streams that were written to the section
pub section_from : (rows : List Row) (row : Row) (before after w s : Bytes) (answer : Option (Unit {0})) (o : Option (List Stream)) → StreamsWritten rows row.parent before o after answer
    → ((es : List Stream) → before ++ flat_map stream_bytes (moved_all rows row.parent es) ≡ w ++ (0x02 ∷ byte s 1 ∷ byte s 2 ∷ section_body (patch_section rows row (section_with s es))))
    → MatchOption o (answer ≡ None) (λ es. (answer ≡ Some tt) × (after ≡ w ++ (0x02 ∷ byte s 1 ∷ byte s 2 ∷ section_body (patch_section rows row (section_with s es)))))
section_from rows row before after w s answer None h e = h
section_from rows row before after w s answer (Some es) h e = (h.0, h.1 ∙ e es)

-- adaptation_field_control 1 alone is payload only
pub payload_control : (control : ℕ) → payload_only (adaptation_in control) ≡ true → control ≡ 1
payload_control control h =
    ⊎_elim (λ e. absurd (both_ways _ (ap payload_only (cond-true _ _ _ e)) h))
    (λ e. ⊎_elim (λ f. eqb-true control 1 f)
    (λ f. absurd (both_ways _ (ap payload_only (cond-false _ _ _ e ∙ cond-false _ _ _ f) ∙ neither (eqb control 2)) h)) (cases_Bool (eqb control 1)))
    (cases_Bool (eqb control 0))
  where
    neither : (b : Bool) → payload_only (cond b Field Both) ≡ false
    neither true = refl
    neither false = refl

-- the comparison of the code
pub is_payload : (a : Adaptation) → not (sameb the_type a Payload) ≡ false → payload_only a ≡ true
is_payload Reserved e = absurd (true≢false e)
is_payload Payload e = refl
is_payload Field e = absurd (true≢false e)
is_payload Both e = absurd (true≢false e)

-- a packet in which a section starts behind the pointer
pub record Opens (x : Bytes) : Type 0 where
  pub good : good_packet x ≡ true
  pub start : start_of x ≡ true
  pub clear : scrambling_of x ≡ 0
  pub payload : payload_only (adaptation_of x) ≡ true
  pub pointer : byte x 4 ≡ 0x00

pub opens_parts : (x : Bytes) → opens x ≡ true → Opens x
unfolding opens
opens_parts x t =
    let p0 = and_parts _ _ t in
    let p1 = and_parts _ _ p0.1 in
    let p2 = and_parts _ _ p1.1 in
    let p3 = and_parts _ _ p2.1 in
    record { good = p0.0; start = p1.0; clear = eqb-true _ _ p2.0; payload = p3.0; pointer = eqb-true _ _ p3.1 }

pub opens_from : (x : Bytes) → Opens x → opens x ≡ true
unfolding opens
opens_from x o =
    and_from _ _ o.good (and_from _ _ o.start (and_from _ _ (eq-eqb _ _ o.clear) (and_from _ _ o.payload (eq-eqb _ _ o.pointer))))

pub opens_not : (x : Bytes) → (Opens x → ⊥) → opens x ≡ false
opens_not x none = ⊎_elim (λ t. absurd (none (opens_parts x t))) (λ f. f) (cases_Bool (opens x))

-- what is answered with a value where a test passes
pub answered_where : {X : Type 0} (r : Option X) (b : Bool) (v : X) (P : Type 0) (Q : X → Type 0) → r ≡ then_some b v → (b ≡ false → P) → (b ≡ true → Q v) → MatchOption r P Q
answered_where r true v P Q e f t = subst (λ o. MatchOption o P Q) (sym e) (t refl)
answered_where r false v P Q e f t = subst (λ o. MatchOption o P Q) (sym e) (f refl)

-- an answer of a value tells which of two cases a clause speaks of
pub told_some : {X : Type 0} (o : Option X) (answer : Option (Unit {0})) (Q : X → Type 0) → MatchOption o (answer ≡ None) (λ x. (answer ≡ Some tt) × Q x) → (u : Unit {0}) → answer ≡ Some u → (x : X) × (o ≡ Some x) × Q x
told_some None answer Q h u e = let z : ◌≡◌ {A = ℕ} 0 1 = cc (h, e) in absurd (omega arith)
told_some (Some x) answer Q h u e = (x, refl, h.1)

module _ (rows : List Row) (row : Row) (x : Bytes) where
  pub unopened : opens x ≡ false → patched rows row x ≡ None
  unfolding patched pmt_of
  unopened f = ap (option_map (λ (p : Pmt). filled (pmt_bytes (patch_pmt rows row p)))) (cond-false _ _ None f)

  opened : opens x ≡ true → patched rows row x ≡ option_map (λ (p : Pmt). filled (pmt_bytes (patch_pmt rows row p))) (option_map (pmt_with x) (section_of (drop 5 x)))
  unfolding patched pmt_of
  opened t = ap (option_map (λ (p : Pmt). filled (pmt_bytes (patch_pmt rows row p)))) (cond-true _ _ None t)

  pub unsound : opens x ≡ true → (fixed_part (drop 5 x) && right_crc (drop 5 x)) ≡ false → patched rows row x ≡ None
  unfolding section_of
  unsound t f = opened t ∙ ap (λ o. option_map (λ (p : Pmt). filled (pmt_bytes (patch_pmt rows row p))) (option_map (pmt_with x) o)) (cond-false _ _ None f)

  sounded : opens x ≡ true → (fixed_part (drop 5 x) && right_crc (drop 5 x)) ≡ true → (o : Option (List Stream)) → streams_of (stream_part (before_crc (drop 5 x))) ≡ o
      → patched rows row x ≡ option_map (λ (p : Pmt). filled (pmt_bytes (patch_pmt rows row p))) (option_map (pmt_with x) (option_map (section_with (before_crc (drop 5 x))) o))
  unfolding section_of
  sounded t u o e = opened t ∙ ap (λ l. option_map (λ (p : Pmt). filled (pmt_bytes (patch_pmt rows row p))) (option_map (pmt_with x) l)) (cond-true _ _ None u ∙ ap (option_map (section_with (before_crc (drop 5 x)))) e)

  pub unfilled : opens x ≡ true → (fixed_part (drop 5 x) && right_crc (drop 5 x)) ≡ true → streams_of (stream_part (before_crc (drop 5 x))) ≡ None → patched rows row x ≡ None
  unfilled t u e = sounded t u None e

  pub patched_some : (es : List Stream) → opens x ≡ true → (fixed_part (drop 5 x) && right_crc (drop 5 x)) ≡ true → streams_of (stream_part (before_crc (drop 5 x))) ≡ Some es
      → patched rows row x ≡ Some (filled (pmt_bytes (patch_pmt rows row (pmt_with x (section_with (before_crc (drop 5 x)) es)))))
  patched_some es t u e = sounded t u (Some es) e

-- the packet is what is closed, once its head and its section are written
pub closed_pmt : (rows : List Row) (row : Row) (x s : Bytes) (es : List Stream) → Opens x
    → closed (0x47 ∷ pid_high (byte x 1) row.out ∷ row.out % 0x100 ∷ byte x 3 ∷ 0x00 ∷ 0x02 ∷ byte s 1 ∷ byte s 2 ∷ section_body (patch_section rows row (section_with s es)))
    ≡ pmt_bytes (patch_pmt rows row (pmt_with x (section_with s es)))
unfolding closed with_length pmt_bytes section_bytes
closed_pmt rows row x s es o =
    let g = good_parts x o.good in
    let body = section_body (patch_section rows row (section_with s es)) in
    let n : suc (suc (suc (length body))) + 1 ≡ length body + 4 = omega arith in
    let started = eqb-true (byte x 1 / 0x40 % 2) 1 o.start in
    let payload = payload_control (byte x 3 / 0x10 % 4) o.payload in
    let flags : byte x 1 / 0x20 ≡ 2 + byte x 1 / 0x20 % 2 = omega (arith, g.clear) in
    let control : byte x 3 ≡ 0x10 + byte x 3 % 0x10 = omega (arith, o.clear) in
    λ i. 0x47 ∷ pid_byte (flags i) row.out ∷ row.out % 0x100 ∷ control i ∷ 0x00 ∷ sealed (0x02 ∷ length_byte (byte s 1 / 0x10) (n i) ∷ n i % 0x100 ∷ body)
