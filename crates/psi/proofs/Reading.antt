-- A PMT that is written is read as it was.
use Rattle.std.proofs.Common.{◌≡◌, ℕ, ◌+◌, ◌-◌, ◌*◌, ◌/◌, ◌%◌, ◌^◌, ◌≤◌, List, [], ◌∷◌, ◌++◌, length, take, drop, Some, None, sym, refl, ap, ◌∙◌, append_assoc, add-zero, arith, length-append}
use Rattle.std.specs.List.{flat_map}
use Rattle.std.specs.Option.{option_map}
use Rattle.std.proofs.lemmas.List.{take_at, drop_at, drop-drop, get_or-append-add}
use Rattle.std.proofs.lemmas.Bool.{and_from, eq-eqb, cond-true}
use Rattle.psi.specs.Crc.{crc_of, four_bytes, sealed}
use Rattle.psi.specs.Packet.{Bytes, byte, pid_in, pid_byte, adaptation_in, payload_only}
use Rattle.psi.specs.Sections.{length_in, length_byte, section_length}
use Rattle.psi.specs.Pmt.{Stream, Section, Pmt, stream_bytes, stream_length, stream_of, streams_of, section_body, section_bytes, section_with, section_of, stream_part, info_length, before_crc, crc_field, pmt_bytes, pmt_with, pmt_of}
use Rattle.psi.specs.Patchable.{SoundStream, SoundStreams, SoundSection, Sound, Holds}
use Rattle.psi.proofs.Crcs.{crc_below, four_joined}
use Rattle.psi.proofs.Entries.{streams_some}
use Rattle.psi.proofs.Packets.{good_from}
use Rattle.psi.proofs.Shapes.{Fixed, fixed_from, Opens, opens_from}

module _ (e : Stream) (rest : Bytes) (h : SoundStream e) where
  info_count : length_in (length_byte e.info_flags (length e.info)) (length e.info % 0x100) ≡ length e.info
  info_count = omega (arith, h.info)

  stream_back : stream_of (stream_bytes e ++ rest) ≡ e
  stream_back =
      let pid_flags : pid_byte e.pid_flags e.pid / 0x20 ≡ e.pid_flags = omega arith in
      let pid : pid_in (pid_byte e.pid_flags e.pid) (e.pid % 0x100) ≡ e.pid = omega (arith, h.pid) in
      let info_flags : length_byte e.info_flags (length e.info) / 0x10 ≡ e.info_flags = omega arith in
      let info : take (length_in (length_byte e.info_flags (length e.info)) (length e.info % 0x100)) (e.info ++ rest) ≡ e.info =
      ap (λ n. take n (e.info ++ rest)) info_count ∙ take_at e.info rest (length e.info) refl in
      λ i. record { type = e.type; pid_flags = pid_flags i; pid = pid i; info_flags = info_flags i; info = info i }

  rest_back : drop (stream_length (stream_bytes e ++ rest)) (stream_bytes e ++ rest) ≡ rest
  rest_back =
      ap (λ n. drop (5 + n) (stream_bytes e ++ rest)) info_count
      ∙ sym (drop-drop (length e.info) 5 (stream_bytes e ++ rest))
      ∙ drop_at e.info rest (length e.info) refl

  stream_fits : stream_length (stream_bytes e ++ rest) ≤ length (stream_bytes e ++ rest)
  stream_fits = let n = length-append e.info rest in omega (arith, info_count)

pub streams_back : (es : List Stream) → SoundStreams es → streams_of (flat_map stream_bytes es) ≡ Some es
unfolding streams_of
streams_back [] h = refl
streams_back (e ∷ es) h =
    let rest = flat_map stream_bytes es in
    streams_some (stream_bytes e ++ rest) (omega arith) (stream_fits e rest h.0)
    ∙ (λ i. option_map (λ fs. stream_back e rest h.0 i ∷ fs) ((ap streams_of (rest_back e rest h.0) ∙ streams_back es h.1) i))

module _ (s : Section) (behind : Bytes) (h : SoundSection s) where
  -- the section but for its CRC
  abbrev front : Bytes
  front = 0x02 ∷ length_byte s.flags (length (section_body s) + 4) ∷ (length (section_body s) + 4) % 0x100 ∷ section_body s

  abbrev whole : Bytes
  whole = (front ++ four_bytes (crc_of front)) ++ behind

  section_count : section_length whole ≡ length (section_body s) + 4
  section_count = omega (arith, h.fits)

  body_count : length (section_body s) ≡ 9 + (length s.info + length (flat_map stream_bytes s.streams))
  body_count = let n = length-append s.info (flat_map stream_bytes s.streams) in omega arith

  info_count_of : info_length whole ≡ length s.info
  info_count_of = let n = body_count in omega (arith, h.fits)

  whole_count : length whole ≡ length (section_body s) + 7 + length behind
  whole_count =
      let n = length-append (front ++ four_bytes (crc_of front)) behind in
      let m = length-append front (four_bytes (crc_of front)) in
      omega arith

  fixed_back : Fixed whole
  fixed_back =
      let n = section_count in
      let m = body_count in
      let k = info_count_of in
      let w = whole_count in
      record {
        table = refl;
        syntax = omega (arith, h.syntax);
        least = omega arith;
        most = omega (arith, h.fits);
        whole = omega arith;
        first = refl;
        last = refl;
        room = omega arith;
      }

  front_back : before_crc whole ≡ front
  front_back =
      let n = section_count in
      let count : section_length whole - 1 ≡ length front = omega arith in
      ap (λ k. take k whole) count
      ∙ ap (take (length front)) (append_assoc front (four_bytes (crc_of front)) behind)
      ∙ take_at front (four_bytes (crc_of front) ++ behind) (length front) refl

  crc_byte_at : (k : ℕ) → byte whole (section_length whole - 1 + k) ≡ byte (four_bytes (crc_of front) ++ behind) k
  crc_byte_at k =
      let n = section_count in
      let count : section_length whole - 1 ≡ length front = omega arith in
      ap (λ m. byte whole (m + k)) count
      ∙ ap (λ (l : Bytes). byte l (length front + k)) (append_assoc front (four_bytes (crc_of front)) behind)
      ∙ get_or-append-add front (four_bytes (crc_of front) ++ behind) k 0

  crc_back : crc_of (before_crc whole) ≡ crc_field whole
  crc_back =
      let k = section_length whole - 1 in
      let c = crc_of front in
      let b0 : byte whole k ≡ c / 2 ^ 24 % 2 ^ 8 = ap (byte whole) (sym (add-zero k)) ∙ crc_byte_at 0 in
      let b1 : byte whole (k + 1) ≡ c / 2 ^ 16 % 2 ^ 8 = crc_byte_at 1 in
      let b2 : byte whole (k + 2) ≡ c / 2 ^ 8 % 2 ^ 8 = crc_byte_at 2 in
      let b3 : byte whole (k + 3) ≡ c % 2 ^ 8 = crc_byte_at 3 in
      ap crc_of front_back ∙ sym (four_joined c (crc_below front)) ∙ sym (λ i. b0 i * 2 ^ 24 + b1 i * 2 ^ 16 + b2 i * 2 ^ 8 + b3 i)

  info_front : info_length front ≡ length s.info
  info_front = let n = body_count in omega (arith, h.fits)

  streams_front : stream_part front ≡ flat_map stream_bytes s.streams
  streams_front =
      ap (λ n. drop (12 + n) front) info_front
      ∙ sym (drop-drop (length s.info) 12 front)
      ∙ drop_at s.info (flat_map stream_bytes s.streams) (length s.info) refl

  fields_back : section_with front s.streams ≡ s
  fields_back =
      let flags : length_byte s.flags (length (section_body s) + 4) / 0x10 ≡ s.flags = omega arith in
      let program : s.program / 0x100 % 0x100 * 0x100 + s.program % 0x100 ≡ s.program = omega (arith, h.program) in
      let pcr_flags : pid_byte s.pcr_flags s.pcr / 0x20 ≡ s.pcr_flags = omega arith in
      let pcr : pid_in (pid_byte s.pcr_flags s.pcr) (s.pcr % 0x100) ≡ s.pcr = omega (arith, h.pcr) in
      let info_flags : length_byte s.info_flags (length s.info) / 0x10 ≡ s.info_flags = omega arith in
      let info : take (info_length front) (s.info ++ flat_map stream_bytes s.streams) ≡ s.info =
      ap (λ n. take n (s.info ++ flat_map stream_bytes s.streams)) info_front ∙ take_at s.info (flat_map stream_bytes s.streams) (length s.info) refl in
      λ i. record { flags = flags i; program = program i; version = s.version; pcr_flags = pcr_flags i; pcr = pcr i; info_flags = info_flags i; info = info i; streams = s.streams }

  pub section_back : section_of (section_bytes s ++ behind) ≡ Some s
  unfolding section_of section_bytes sealed
  section_back =
      cond-true _ _ None (and_from _ _ (fixed_from whole fixed_back) (eq-eqb _ _ crc_back))
      ∙ ap (λ (f : Bytes). option_map (section_with f) (streams_of (stream_part f))) front_back
      ∙ ap (option_map (section_with front)) (ap streams_of streams_front ∙ streams_back s.streams h.streams)
      ∙ ap Some fields_back

-- a packet that begins with what is written of a PMT
module _ (p : Pmt) (behind : Bytes) (h : Sound p) (long : length (pmt_bytes p ++ behind) ≡ 188) where
  opened : Opens (pmt_bytes p ++ behind)
  unfolding pmt_bytes
  opened =
      let start : pid_byte (2 + p.priority) p.pid / 0x40 % 2 ≡ 1 = omega (arith, h.priority) in
      let control : (0x10 + p.counter) / 0x10 % 4 ≡ 1 = omega (arith, h.counter) in
      record {
        good = good_from (pmt_bytes p ++ behind) (record { long = long; sync = refl; clear = omega (arith, h.priority) });
        start = eq-eqb _ 1 start;
        clear = omega (arith, h.counter);
        payload = ap (λ c. payload_only (adaptation_in c)) control;
        pointer = refl;
      }

  fields : pmt_with (pmt_bytes p ++ behind) p.section ≡ p
  unfolding pmt_bytes
  fields =
      let priority : pid_byte (2 + p.priority) p.pid / 0x20 % 2 ≡ p.priority = omega (arith, h.priority) in
      let pid : pid_in (pid_byte (2 + p.priority) p.pid) (p.pid % 0x100) ≡ p.pid = omega (arith, h.pid) in
      let counter : (0x10 + p.counter) % 0x10 ≡ p.counter = omega (arith, h.counter) in
      λ i. record { priority = priority i; pid = pid i; counter = counter i; section = p.section }

  written_back : pmt_of (pmt_bytes p ++ behind) ≡ Some p
  unfolding pmt_of pmt_bytes
  written_back =
      cond-true _ _ None (opens_from (pmt_bytes p ++ behind) opened)
      ∙ ap (option_map (pmt_with (pmt_bytes p ++ behind))) (section_back p.section behind h.section)
      ∙ ap Some fields

-- a patchable packet has the PMT that it is written from
pub pmt_back : (x : Bytes) (p : Pmt) → Holds x p → pmt_of x ≡ Some p
pmt_back x p h = ap pmt_of h.is ∙ written_back p h.behind h.sound (ap length (sym h.is) ∙ h.long)
