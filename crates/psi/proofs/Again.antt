-- A patched PMT: it fits its packet, is sound, and stays as it is where its PIDs are kept.
use Rattle.std.proofs.Common.{◌≡◌, ℕ, zero, suc, ◌+◌, ◌-◌, ◌%◌, ◌<◌, ◌≤◌, List, [], ◌∷◌, ◌++◌, length, take, drop, replicate, IfSome, Some, None, Option, unwrap_or, sym, refl, ap, ◌∙◌, subst, append_assoc, arith, length-append, length-drop}
use Rattle.std.specs.List.{flat_map}
use Rattle.std.specs.Option.{option_map}
use Rattle.std.proofs.lemmas.List.{length-take-le}
use Rattle.std.proofs.lemmas.Bool.{and_parts, leb-true}
use Rattle.config.specs.declared.row.Row.{Row}
use Rattle.config.specs.declared.row.Kind.{Kind}
use Rattle.config.specs.declared.row.Kind.TheVariants.{Pass, Pmt as pmt-kind}
use Rattle.config.specs.Rows.{most_service, RowInRange, RowsInRange}
use Rattle.psi.specs.Lookup.{find_row, out_of}
use Rattle.psi.specs.Packet.{Bytes, byte, filled, Framed}
use Rattle.psi.specs.Sections.{length_in, length_byte}
use Rattle.psi.specs.Pmt.{Stream, Section, Pmt, stream_bytes, stream_length, stream_of, streams_in, streams_of, section_body, section_bytes, section_with, section_of, stream_part, info_length, before_crc, pmt_bytes, pmt_with, pmt_of, moved, moved_all, patch_section, patch_pmt, patched, no_pcr}
use Rattle.psi.specs.Patchable.{SoundStream, SoundStreams, Sound, Holds, Patches, Keeps, PatchedAgain}
use Rattle.psi.proofs.Crcs.{length_sealed}
use Rattle.psi.proofs.Lookups.{found}
use Rattle.psi.proofs.Packets.{filled_long}
use Rattle.psi.proofs.Reading.{pmt_back}
use Rattle.psi.proofs.Shapes.{Fixed, fixed_parts, length_before_crc, room_before_crc}
use Rattle.psi.proofs.Writing.{Small, mapped_some, cond_some, pmt_exact}

-- streams take as many bytes as they fill
streams_length : (k : ℕ) (bs : Bytes) (es : List Stream) → streams_in k bs ≡ Some es → length (flat_map stream_bytes es) ≡ length bs
streams_length k [] es e = let none : [] ≡ es = cc in ap (λ (l : List Stream). length (flat_map stream_bytes l)) (sym none)
streams_length zero (b ∷ bs) es e = let z : ◌≡◌ {A = ℕ} 0 1 = cc in absurd (omega arith)
streams_length (suc k) (b ∷ bs) es e =
    let n = stream_length (b ∷ bs) in
    let got = cond_some _ _ es e in
    let parts = mapped_some _ (streams_in k (drop n (b ∷ bs))) es got.1 in
    let fit = leb-true _ _ got.0 in
    let rest = streams_length k (drop n (b ∷ bs)) parts.0 parts.1 ∙ length-drop n (b ∷ bs) in
    let count = length_in (byte (b ∷ bs) 3) (byte (b ∷ bs) 4) in
    let info : length (take count (drop 5 (b ∷ bs))) ≡ count = length-take-le count (drop 5 (b ∷ bs)) (simp length-drop (omega arith)) in
    ap (λ (l : List Stream). length (flat_map stream_bytes l)) (sym parts.2)
    ∙ length-append (stream_bytes (stream_of (b ∷ bs))) (flat_map stream_bytes parts.0)
    ∙ (let all = rest in omega arith)

-- a section that is read fits its packet
section_fits : (bs : Bytes) (es : List Stream) → Fixed bs → streams_of (stream_part (before_crc bs)) ≡ Some es → length (section_body (section_with (before_crc bs) es)) + 4 ≤ 180
unfolding streams_of
section_fits bs es f e =
    let front : Bytes = before_crc bs in
    let streams : length (flat_map stream_bytes es) ≡ length front - (12 + info_length front) =
    streams_length (length (stream_part front)) (stream_part front) es e ∙ length-drop (12 + info_length front) front in
    let room = room_before_crc bs f in
    let long = length_before_crc bs f in
    let info : length (take (info_length front) (drop 12 front)) ≡ info_length front =
    length-take-le (info_length front) (drop 12 front) (simp length-drop (omega (arith, room.0))) in
    let both = length-append (take (info_length front) (drop 12 front)) (flat_map stream_bytes es) in
    omega (arith, streams, info, both, room.0, long, f.most, f.least)

pmt_fits : (x : Bytes) (p : Pmt) → pmt_of x ≡ Some p → length (section_body p.section) + 4 ≤ 180
unfolding pmt_of section_of
pmt_fits x p e =
    let got = cond_some _ _ p e in
    let of-section = mapped_some (pmt_with x) _ p got.1 in
    let sound = cond_some _ _ of-section.0 of-section.1 in
    let of-streams = mapped_some (section_with (before_crc (drop 5 x))) _ of-section.0 sound.1 in
    subst (λ (q : Pmt). length (section_body q.section) + 4 ≤ 180) (ap (pmt_with x) of-streams.2 ∙ of-section.2)
    (section_fits (drop 5 x) of-streams.0 (fixed_parts (drop 5 x) (and_parts _ _ sound.0).0) of-streams.1)

-- what goes makes it no longer
moved_length : (o : Option ℕ) (e : Stream) → length (flat_map stream_bytes (moved o e)) ≤ length (stream_bytes e)
moved_length None e = omega arith
moved_length (Some out) e = let n = length-append e.info [] in omega arith

joined_append : (es fs : List Stream) → flat_map stream_bytes (es ++ fs) ≡ flat_map stream_bytes es ++ flat_map stream_bytes fs
joined_append [] fs = refl
joined_append (e ∷ es) fs = ap (λ l. stream_bytes e ++ l) (joined_append es fs) ∙ sym (append_assoc (stream_bytes e) (flat_map stream_bytes es) (flat_map stream_bytes fs))

moved_all_length : (rows : List Row) (parent : ℕ) (es : List Stream) → length (flat_map stream_bytes (moved_all rows parent es)) ≤ length (flat_map stream_bytes es)
moved_all_length rows parent [] = omega arith
moved_all_length rows parent (e ∷ es) =
    let one = moved_length (out_of rows parent e.pid) e in
    let rest = moved_all_length rows parent es in
    let left = ap length (joined_append (moved (out_of rows parent e.pid) e) (moved_all rows parent es)) ∙ length-append (flat_map stream_bytes (moved (out_of rows parent e.pid) e)) (flat_map stream_bytes (moved_all rows parent es)) in
    let right = length-append (stream_bytes e) (flat_map stream_bytes es) in
    omega (arith, left, right)

patched_fits : (rows : List Row) (row : Row) (s : Section) → length (section_body (patch_section rows row s)) ≤ length (section_body s)
patched_fits rows row s =
    let streams = moved_all_length rows row.parent s.streams in
    let left = length-append s.info (flat_map stream_bytes (moved_all rows row.parent s.streams)) in
    let right = length-append s.info (flat_map stream_bytes s.streams) in
    omega (arith, left, right)

-- a PMT that fits is a packet once it is filled up
length_section : (s : Section) → length (section_bytes s) ≡ length (section_body s) + 7
unfolding section_bytes
length_section s =
    let n = length (section_body s) + 4 in
    length_sealed (0x02 ∷ length_byte s.flags n ∷ n % 0x100 ∷ section_body s) ∙ omega arith

pub pmt_framed : (p : Pmt) → length (section_body p.section) + 4 ≤ 180 → Framed (filled (pmt_bytes p))
unfolding filled pmt_bytes
pmt_framed p fits = record { long = filled_long (pmt_bytes p) (omega (arith, length_section p.section)); sync = refl }

pub patched_framed : (rows : List Row) (row : Row) (x y : Bytes) → patched rows row x ≡ Some y → Framed y
unfolding patched
patched_framed rows row x y e =
    let got = mapped_some (λ (p : Pmt). filled (pmt_bytes (patch_pmt rows row p))) (pmt_of x) y e in
    subst Framed got.2 (pmt_framed (patch_pmt rows row got.0) (omega (arith, pmt_fits x got.0 got.1, patched_fits rows row got.0.section)))

-- a PID that leaves has 13 bits
out_below : (rows : List Row) (parent pid out : ℕ) → RowsInRange rows → out_of rows parent pid ≡ Some out → out < 0x2000
unfolding out_of
out_below rows parent pid out range e =
    let got = mapped_some (λ (f : ℕ × Row). f.1.out) (find_row rows parent pid) out e in
    let there = found rows parent pid got.0 got.1 in
    let own = range got.0.1 (got.0.0, there.within, there.there) in
    omega (arith, own.1.1, got.2)

moved_sound : (o : Option ℕ) (e : Stream) (es : List Stream) → ((out : ℕ) → o ≡ Some out → out < 0x2000) → SoundStream e → SoundStreams es → SoundStreams (moved o e ++ es)
moved_sound None e es below h hs = hs
moved_sound (Some out) e es below h hs =
    (record { type = h.type; pid_flags = h.pid_flags; pid = below out refl; info_flags = h.info_flags; info = h.info }, hs)

moved_all_sound : (rows : List Row) (parent : ℕ) (es : List Stream) → RowsInRange rows → SoundStreams es → SoundStreams (moved_all rows parent es)
moved_all_sound rows parent [] range h = tt
moved_all_sound rows parent (e ∷ es) range h =
    moved_sound (out_of rows parent e.pid) e (moved_all rows parent es) (λ out is. out_below rows parent e.pid out range is) h.0 (moved_all_sound rows parent es range h.1)

pcr_below : (o : Option ℕ) → ((out : ℕ) → o ≡ Some out → out < 0x2000) → unwrap_or o no_pcr < 0x2000
pcr_below None below = omega arith
pcr_below (Some out) below = below out refl

service_below : (k : Kind) (n : ℕ) → n ≤ most_service k → n < 0x10000
service_below Pass n h = omega arith
service_below pmt-kind n h = omega arith

patch_sound : (rows : List Row) (row : Row) (p : Pmt) → RowsInRange rows → RowInRange row → Sound p → Sound (patch_pmt rows row p)
patch_sound rows row p range own h =
    let s = h.section in
    record {
      priority = h.priority;
      pid = omega (arith, own.1.1);
      counter = h.counter;
      section =
          record {
            flags = s.flags;
            syntax = s.syntax;
            program = service_below row.kind row.service own.2.1;
            version = s.version;
            pcr_flags = s.pcr_flags;
            pcr = pcr_below (out_of rows row.parent p.section.pcr) (λ out is. out_below rows row.parent p.section.pcr out range is);
            info_flags = s.info_flags;
            fits = omega (arith, s.fits, patched_fits rows row p.section);
            streams = moved_all_sound rows row.parent p.section.streams range s.streams;
          };
    }

-- streams whose PIDs are kept stay
module _ (rows : List Row) (parent : ℕ) (rows' : List Row) (parent' : ℕ) (keeps : Keeps rows parent rows' parent') where
  kept_one : (o : Option ℕ) (e : Stream) (es : List Stream) → ((out : ℕ) → o ≡ Some out → out_of rows' parent' out ≡ Some out) → moved_all rows' parent' es ≡ es
      → moved_all rows' parent' (moved o e ++ es) ≡ moved o e ++ es
  kept_one None e es keep rest = rest
  kept_one (Some out) e es keep rest =
      let f : Stream = record { type = e.type; pid_flags = e.pid_flags; pid = out; info_flags = e.info_flags; info = e.info } in
      (λ i. moved (keep out refl i) f ++ rest i)

  kept_all : (es : List Stream) → moved_all rows' parent' (moved_all rows parent es) ≡ moved_all rows parent es
  kept_all [] = refl
  kept_all (e ∷ es) = kept_one (out_of rows parent e.pid) e (moved_all rows parent es) (λ out is. keeps.0 e.pid out is) (kept_all es)

  kept_pcr : (o : Option ℕ) → ((out : ℕ) → o ≡ Some out → out_of rows' parent' out ≡ Some out) → unwrap_or (out_of rows' parent' (unwrap_or o no_pcr)) no_pcr ≡ unwrap_or o no_pcr
  kept_pcr None keep = ap (λ q. unwrap_or q no_pcr) keeps.1
  kept_pcr (Some out) keep = ap (λ q. unwrap_or q no_pcr) (keep out refl)

patched_stays : (rows : List Row) (row : Row) (rows' : List Row) (row' : Row) (p : Pmt) → Keeps rows row.parent rows' row'.parent → row'.out ≡ row.out → row'.service ≡ row.service
    → patch_pmt rows' row' (patch_pmt rows row p) ≡ patch_pmt rows row p
patched_stays rows row rows' row' p keeps out service =
    let s = p.section in
    let pcr = kept_pcr rows row.parent rows' row'.parent keeps (out_of rows row.parent s.pcr) (λ o is. keeps.0 s.pcr o is) in
    let streams = kept_all rows row.parent rows' row'.parent keeps s.streams in
    λ i. record {
      priority = p.priority;
      pid = out i;
      counter = p.counter;
      section = record { flags = s.flags; program = service i; version = s.version; pcr_flags = s.pcr_flags; pcr = pcr i; info_flags = s.info_flags; info = s.info; streams = streams i };
    }

-- a sound PMT that is filled up is patchable
filled_holds : (p : Pmt) → Sound p → Holds (filled (pmt_bytes p)) p
unfolding filled
filled_holds p h =
    record { long = (pmt_framed p h.section.fits).long; sound = h; behind = replicate (188 - length (pmt_bytes p)) 0xFF; is = refl }

-- what a patch answers, said of its packet and of what follows
module _ (rows : List Row) (row : Row) (x : Bytes) (small : Small x) where
  patches_by : (o : Option Pmt) → pmt_of x ≡ o → Patches rows row x (option_map (λ (p : Pmt). filled (pmt_bytes (patch_pmt rows row p))) o)
  patches_by None e = λ p h. let back = pmt_back x p h in let z : ◌≡◌ {A = ℕ} 0 1 = cc in absurd (omega arith)
  patches_by (Some p) e = (p, pmt_exact x p small e, refl)

  pub patches : Patches rows row x (patched rows row x)
  unfolding patched
  patches = patches_by (pmt_of x) refl

  pub patched_again : (y : Bytes) → patched rows row x ≡ Some y → PatchedAgain rows row y
  unfolding patched
  patched_again y e range own rows' row' keeps out service =
      let got = mapped_some (λ (p : Pmt). filled (pmt_bytes (patch_pmt rows row p))) (pmt_of x) y e in
      let p = got.0 in
      let q = patch_pmt rows row p in
      let sound = patch_sound rows row p range own (pmt_exact x p small got.1).sound in
      let back = pmt_back (filled (pmt_bytes q)) q (filled_holds q sound) in
      ap (λ (z : Bytes). patched rows' row' z) (sym got.2)
      ∙ ap (option_map (λ (r : Pmt). filled (pmt_bytes (patch_pmt rows' row' r)))) back
      ∙ ap (λ (r : Pmt). Some (filled (pmt_bytes r))) (patched_stays rows row rows' row' p keeps out service)
      ∙ ap Some got.2

each : (o : Option Bytes) (P : Bytes → Type 0) → ((y : Bytes) → o ≡ Some y → P y) → IfSome o P
each None P f = tt
each (Some y) P f = f y refl

-- all that a patch promises, from its answer
pub told : (rows : List Row) (row : Row) (x : Bytes) (answer : Option Bytes) → Small x → answer ≡ patched rows row x
    → record { value : answer ≡ patched rows row x; framed : IfSome answer Framed; shape : Patches rows row x answer; again : IfSome answer (PatchedAgain rows row) }
told rows row x answer small e =
    record {
      value = e;
      framed = each answer Framed (λ y is. patched_framed rows row x y (sym e ∙ is));
      shape = subst (Patches rows row x) (sym e) (patches rows row x small);
      again = each answer (PatchedAgain rows row) (λ y is. patched_again rows row x small y (sym e ∙ is));
    }
