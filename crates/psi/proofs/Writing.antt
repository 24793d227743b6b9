-- A PMT that is read is written as it was.
use Rattle.std.proofs.Common.{◌≡◌, ℕ, zero, suc, ◌+◌, ◌-◌, ◌*◌, ◌/◌, ◌%◌, ◌^◌, ◌<◌, ◌≤◌, Bool, true, false, cond, List, [], ◌∷◌, ◌++◌, length, take, drop, set, Some, None, Option, sym, refl, ap, ◌∙◌, subst, ⊎_elim, append_assoc, add-zero, arith, lit<, length-drop, take-append-drop, length-take}
use Rattle.std.specs.List.{flat_map}
use Rattle.std.specs.Option.{option_map}
use Rattle.std.proofs.lemmas.List.{drop_more, drop-drop, set-get_or, get_or-take, get_or-drop, get_or_past}
use Rattle.std.proofs.lemmas.Bool.{and_parts, eqb-true, leb-true, cases_lt}
use Rattle.psi.specs.Crc.{crc_of, four_bytes, sealed}
use Rattle.psi.specs.Packet.{Bytes, byte, pid_in, pid_of, pid_byte, pid_high, with_pid}
use Rattle.psi.specs.Sections.{length_byte, section_length}
use Rattle.psi.specs.Pmt.{Stream, Section, Pmt, stream_bytes, stream_length, stream_of, streams_in, streams_of, section_body, section_bytes, section_with, section_of, stream_part, info_length, before_crc, crc_field, pmt_bytes, pmt_with, pmt_of}
use Rattle.psi.specs.Patchable.{SoundStream, SoundStreams, SoundSection, Holds}
use Rattle.psi.proofs.Entries.{moved_bytes}
use Rattle.psi.proofs.Packets.{good_parts}
use Rattle.psi.proofs.Shapes.{Fixed, fixed_parts, Opens, opens_parts, payload_control, length_before_crc, byte_before_crc, room_before_crc, info_bytes}

-- each is a byte
abbrev pub Small : Bytes → Type 0
Small x = (i : ℕ) → byte x i < 0x100

small_drop : (n : ℕ) (x : Bytes) → Small x → Small (drop n x)
small_drop n x h i = subst (λ m. m < 0x100) (sym (get_or-drop n x i 0)) (h (n + i))

small_take : (n : ℕ) (x : Bytes) → Small x → Small (take n x)
small_take n x h i =
    ⊎_elim
    (λ l. subst (λ m. m < 0x100) (sym (get_or-take n x i 0 l)) (h i))
    (λ (l : n ≤ i). subst (λ m. m < 0x100) (sym (get_or_past (take n x) i 0 (simp length-take (omega arith)))) (lit< tt))
    (cases_lt i n)

-- the four bytes of a number that four bytes make up
four_split : (n a b c d : ℕ) → n ≡ a * 2 ^ 24 + b * 2 ^ 16 + c * 2 ^ 8 + d → a < 0x100 → b < 0x100 → c < 0x100 → d < 0x100 → a ∷ b ∷ c ∷ d ∷ [] ≡ four_bytes n
four_split n a b c d e ha hb hc hd =
    let ea : a ≡ n / 2 ^ 24 % 2 ^ 8 = omega arith in
    let eb : b ≡ n / 2 ^ 16 % 2 ^ 8 = omega arith in
    let ec : c ≡ n / 2 ^ 8 % 2 ^ 8 = omega arith in
    let ed : d ≡ n % 2 ^ 8 = omega arith in
    λ i. ea i ∷ eb i ∷ ec i ∷ ed i ∷ []

-- what a mapped value came from
pub mapped_some : {X Y : Type 0} (f : X → Y) (o : Option X) (y : Y) → option_map f o ≡ Some y → (x : X) × (o ≡ Some x) × (f x ≡ y)
mapped_some f None y e = let z : ◌≡◌ {A = ℕ} 0 1 = cc in absurd (omega arith)
mapped_some f (Some x) y e = (x, refl, (let s : f x ≡ y = cc in s))

pub cond_some : {Y : Type 0} (b : Bool) (o : Option Y) (y : Y) → cond b o None ≡ Some y → (b ≡ true) × (o ≡ Some y)
cond_some true o y e = (refl, e)
cond_some false o y e = let z : ◌≡◌ {A = ℕ} 0 1 = cc in absurd (omega arith)

-- some bytes with their own PID
own_pid : (l : Bytes) → byte l 2 < 0x100 → with_pid (pid_in (byte l 1) (byte l 2)) l ≡ l
unfolding with_pid
own_pid l low =
    let pid = pid_in (byte l 1) (byte l 2) in
    let high : pid_high (byte l 1) pid ≡ byte l 1 = omega arith in
    let last : pid % 0x100 ≡ byte l 2 = omega arith in
    (λ i. set (set l 1 (high i)) 2 (last i)) ∙ ap (λ (m : Bytes). set m 2 (byte l 2)) (set-get_or l 1 0) ∙ set-get_or l 2 0

stream_exact : (bs : Bytes) → stream_length bs ≤ length bs → Small bs → stream_bytes (stream_of bs) ≡ take (stream_length bs) bs
stream_exact bs fit small =
    let n = stream_length bs in
    let l : Bytes = take n bs in
    let one = get_or-take n bs 1 0 (omega arith) in
    let two = get_or-take n bs 2 0 (omega arith) in
    moved_bytes bs (pid_in (byte bs 1) (byte bs 2)) fit (small 4)
    ∙ sym (λ i. with_pid (pid_in (one i) (two i)) l)
    ∙ own_pid l (subst (λ m. m < 0x100) (sym two) (small 2))

stream_sound : (bs : Bytes) → Small bs → SoundStream (stream_of bs)
stream_sound bs small =
    let b0 = small 0 in
    let b1 = small 1 in
    let b2 = small 2 in
    let b3 = small 3 in
    let b4 = small 4 in
    record { type = b0; pid_flags = omega arith; pid = omega arith; info_flags = omega arith; info = simp length-take (omega arith) }

streams_exact : (k : ℕ) (bs : Bytes) (es : List Stream) → Small bs → streams_in k bs ≡ Some es → (flat_map stream_bytes es ≡ bs) × SoundStreams es
streams_exact k [] es small e =
    let none : [] ≡ es = cc in
    subst (λ (l : List Stream). (flat_map stream_bytes l ≡ []) × SoundStreams l) none (refl, tt)
streams_exact zero (b ∷ bs) es small e = let z : ◌≡◌ {A = ℕ} 0 1 = cc in absurd (omega arith)
streams_exact (suc k) (b ∷ bs) es small e =
    let n = stream_length (b ∷ bs) in
    let got = cond_some _ _ es e in
    let parts = mapped_some _ (streams_in k (drop n (b ∷ bs))) es got.1 in
    let fit = leb-true _ _ got.0 in
    let rest = streams_exact k (drop n (b ∷ bs)) parts.0 (small_drop n (b ∷ bs) small) parts.1 in
    subst (λ (l : List Stream). (flat_map stream_bytes l ≡ b ∷ bs) × SoundStreams l) parts.2
    ((λ i. stream_exact (b ∷ bs) fit small i ++ rest.0 i) ∙ take-append-drop n (b ∷ bs), (stream_sound (b ∷ bs) small, rest.1))

-- a list by its first twelve bytes
twelve : (l : Bytes) → 12 ≤ length l → l ≡ byte l 0 ∷ byte l 1 ∷ byte l 2 ∷ byte l 3 ∷ byte l 4 ∷ byte l 5 ∷ byte l 6 ∷ byte l 7 ∷ byte l 8 ∷ byte l 9 ∷ byte l 10 ∷ byte l 11 ∷ drop 12 l
twelve l h = drop_more l 0 0 (omega arith) ∙ ap (λ m. byte l 0 ∷ m) (drop_more l 1 0 (omega arith) ∙ ap (λ m. byte l 1 ∷ m) (drop_more l 2 0 (omega arith) ∙ ap (λ m. byte l 2 ∷ m) (drop_more l 3 0 (omega arith) ∙ ap (λ m. byte l 3 ∷ m) (drop_more l 4 0 (omega arith) ∙ ap (λ m. byte l 4 ∷ m) (drop_more l 5 0 (omega arith) ∙ ap (λ m. byte l 5 ∷ m) (drop_more l 6 0 (omega arith) ∙ ap (λ m. byte l 6 ∷ m) (drop_more l 7 0 (omega arith) ∙ ap (λ m. byte l 7 ∷ m) (drop_more l 8 0 (omega arith) ∙ ap (λ m. byte l 8 ∷ m) (drop_more l 9 0 (omega arith) ∙ ap (λ m. byte l 9 ∷ m) (drop_more l 10 0 (omega arith) ∙ ap (λ m. byte l 10 ∷ m) (drop_more l 11 0 (omega arith))))))))))))

four : (l : Bytes) → 4 ≤ length l → l ≡ byte l 0 ∷ byte l 1 ∷ byte l 2 ∷ byte l 3 ∷ drop 4 l
four l h = drop_more l 0 0 (omega arith) ∙ ap (λ m. byte l 0 ∷ m) (drop_more l 1 0 (omega arith) ∙ ap (λ m. byte l 1 ∷ m) (drop_more l 2 0 (omega arith) ∙ ap (λ m. byte l 2 ∷ m) (drop_more l 3 0 (omega arith))))

five : (l : Bytes) → 5 ≤ length l → l ≡ byte l 0 ∷ byte l 1 ∷ byte l 2 ∷ byte l 3 ∷ byte l 4 ∷ drop 5 l
five l h = drop_more l 0 0 (omega arith) ∙ ap (λ m. byte l 0 ∷ m) (drop_more l 1 0 (omega arith) ∙ ap (λ m. byte l 1 ∷ m) (drop_more l 2 0 (omega arith) ∙ ap (λ m. byte l 2 ∷ m) (drop_more l 3 0 (omega arith) ∙ ap (λ m. byte l 3 ∷ m) (drop_more l 4 0 (omega arith)))))

-- the bytes s of a section but for its CRC, with the streams that fill its end
module _ (s : Bytes) (es : List Stream) (small : Small s) (room : 12 + info_length s ≤ length s) (zero-first : byte s 6 ≡ 0x00) (zero-last : byte s 7 ≡ 0x00)
    (filled-by : flat_map stream_bytes es ≡ stream_part s) where
  tail_exact : drop 12 s ≡ take (info_length s) (drop 12 s) ++ flat_map stream_bytes es
  tail_exact =
      sym (take-append-drop (info_length s) (drop 12 s))
      ∙ ap (λ (l : Bytes). take (info_length s) (drop 12 s) ++ l) (drop-drop (info_length s) 12 s ∙ sym filled-by)

  front_exact : s ≡ byte s 0 ∷ byte s 1 ∷ byte s 2 ∷ section_body (section_with s es)
  front_exact =
      let b4 = small 4 in
      let b3 = small 3 in
      let b9 = small 9 in
      let lengths = info_bytes s room (small 11) in
      let p1 : byte s 3 ≡ (byte s 3 * 0x100 + byte s 4) / 0x100 % 0x100 = omega arith in
      let p0 : byte s 4 ≡ (byte s 3 * 0x100 + byte s 4) % 0x100 = omega arith in
      let c1 : byte s 8 ≡ pid_byte (byte s 8 / 0x20) (pid_in (byte s 8) (byte s 9)) = omega arith in
      let c0 : byte s 9 ≡ pid_in (byte s 8) (byte s 9) % 0x100 = omega arith in
      twelve s (omega arith)
      ∙ (λ i. byte s 0 ∷ byte s 1 ∷ byte s 2 ∷ p1 i ∷ p0 i ∷ byte s 5 ∷ zero-first i ∷ zero-last i ∷ c1 i ∷ c0 i ∷ lengths.0 i ∷ lengths.1 i ∷ tail_exact i)

-- the section that some bytes begin with
module _ (bs : Bytes) (es : List Stream) (small : Small bs) (f : Fixed bs) (crc : crc_of (before_crc bs) ≡ crc_field bs)
    (filled-by : streams_of (stream_part (before_crc bs)) ≡ Some es) where
  abbrev front : Bytes
  front = before_crc bs

  abbrev section : Section
  section = section_with (before_crc bs) es

  small_front : Small (before_crc bs)
  small_front = small_take (section_length bs - 1) bs small

  streams_here : (flat_map stream_bytes es ≡ stream_part (before_crc bs)) × SoundStreams es
  unfolding streams_of
  streams_here = streams_exact (length (stream_part front)) (stream_part front) es (small_drop (12 + info_length front) front small_front) filled-by

  front_here : front ≡ byte front 0 ∷ byte front 1 ∷ byte front 2 ∷ section_body section
  front_here =
      front_exact front es small_front (room_before_crc bs f).0 (byte_before_crc bs 6 f (lit< tt) ∙ f.first) (byte_before_crc bs 7 f (lit< tt) ∙ f.last) streams_here.0

  body_length : length (section_body section) + 4 ≡ section_length bs
  body_length = let n = ap length front_here in let m = length_before_crc bs f in omega (arith, f.least)

  sealed_front : section_bytes section ≡ front ++ four_bytes (crc_of front)
  unfolding section_bytes sealed
  sealed_front =
      let b1 = byte_before_crc bs 1 f (lit< tt) in
      let b2 = byte_before_crc bs 2 f (lit< tt) in
      let low = small 2 in
      let table : byte front 0 ≡ 0x02 = byte_before_crc bs 0 f (lit< tt) ∙ f.table in
      let n = length (section_body section) + 4 in
      let count = body_length in
      let high : length_byte (byte front 1 / 0x10) n ≡ byte front 1 = omega arith in
      let last : n % 0x100 ≡ byte front 2 = omega arith in
      ap sealed ((λ i. sym table i ∷ high i ∷ last i ∷ section_body section) ∙ sym front_here)

  crc_here : drop (section_length bs - 1) bs ≡ four_bytes (crc_of front) ++ drop (section_length bs + 3) bs
  crc_here =
      let k = section_length bs - 1 in
      let l : Bytes = drop k bs in
      let long : 4 ≤ length l = simp length-drop (omega (arith, f.whole, f.least)) in
      let end : k + 4 ≡ section_length bs + 3 = omega (arith, f.least) in
      let here : (j : ℕ) → byte l j ≡ byte bs (k + j) = λ j. get_or-drop k bs j 0 in
      four l long
      ∙ (λ i. (here 0 ∙ ap (byte bs) (add-zero k)) i ∷ here 1 i ∷ here 2 i ∷ here 3 i ∷ (drop-drop 4 k bs ∙ ap (λ m. drop m bs) end) i)
      ∙ ap (λ (m : Bytes). m ++ drop (section_length bs + 3) bs) (four_split (crc_of front) (byte bs k) (byte bs (k + 1)) (byte bs (k + 2)) (byte bs (k + 3)) crc (small k) (small (k + 1)) (small (k + 2)) (small (k + 3)))

  pub section_exact : bs ≡ section_bytes section ++ drop (section_length bs + 3) bs
  section_exact =
      sym (take-append-drop (section_length bs - 1) bs)
      ∙ ap (λ (l : Bytes). front ++ l) crc_here
      ∙ sym (append_assoc front (four_bytes (crc_of front)) (drop (section_length bs + 3) bs))
      ∙ sym (ap (λ (l : Bytes). l ++ drop (section_length bs + 3) bs) sealed_front)

  pub section_sound : SoundSection section
  section_sound =
      let s1 = small_front 1 in
      let s3 = small_front 3 in
      let s4 = small_front 4 in
      let s8 = small_front 8 in
      let s9 = small_front 9 in
      let s10 = small_front 10 in
      let b1 = byte_before_crc bs 1 f (lit< tt) in
      record {
        flags = omega arith;
        syntax = omega (arith, f.syntax);
        program = omega arith;
        version = small_front 5;
        pcr_flags = omega arith;
        pcr = omega arith;
        info_flags = omega arith;
        fits = omega (arith, body_length, f.most);
        streams = streams_here.1;
      }

-- a packet in which a section starts, and what was read of it
held : (x : Bytes) (es : List Stream) → Small x → Opens x → Fixed (drop 5 x) → crc_of (before_crc (drop 5 x)) ≡ crc_field (drop 5 x)
    → streams_of (stream_part (before_crc (drop 5 x))) ≡ Some es → Holds x (pmt_with x (section_with (before_crc (drop 5 x)) es))
unfolding pmt_bytes
held x es small o f crc filled-by =
    let bs : Bytes = drop 5 x in
    let g = good_parts x o.good in
    let small-bs = small_drop 5 x small in
    let s1 = small 1 in
    let s2 = small 2 in
    let s3 = small 3 in
    let started = eqb-true (byte x 1 / 0x40 % 2) 1 o.start in
    let payload = payload_control (byte x 3 / 0x10 % 4) o.payload in
    let b1 : byte x 1 ≡ pid_byte (2 + byte x 1 / 0x20 % 2) (pid_of x) = omega (arith, g.clear) in
    let b2 : byte x 2 ≡ pid_of x % 0x100 = omega arith in
    let b3 : byte x 3 ≡ 0x10 + byte x 3 % 0x10 = omega (arith, o.clear) in
    record {
      long = g.long;
      sound = record { priority = omega arith; pid = omega arith; counter = omega arith; section = section_sound bs es small-bs f crc filled-by };
      behind = drop (section_length bs + 3) bs;
      is = five x (omega (arith, g.long)) ∙ (λ i. g.sync i ∷ b1 i ∷ b2 i ∷ b3 i ∷ o.pointer i ∷ section_exact bs es small-bs f crc filled-by i);
    }

-- a packet from which a PMT is read
pub pmt_exact : (x : Bytes) (p : Pmt) → Small x → pmt_of x ≡ Some p → Holds x p
unfolding pmt_of section_of
pmt_exact x p small e =
    let got = cond_some _ _ p e in
    let of-section = mapped_some (pmt_with x) _ p got.1 in
    let sound = cond_some _ _ of-section.0 of-section.1 in
    let of-streams = mapped_some (section_with (before_crc (drop 5 x))) _ of-section.0 sound.1 in
    let tests = and_parts _ _ sound.0 in
    subst (Holds x) (ap (pmt_with x) of-streams.2 ∙ of-section.2)
    (held x of-streams.0 small (opens_parts x got.0) (fixed_parts (drop 5 x) tests.0) (eqb-true _ _ tests.1) of-streams.1)
