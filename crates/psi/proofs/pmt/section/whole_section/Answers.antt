use Rattle.std.proofs.Common.{◌≡◌, ℕ, ◌+◌, ◌-◌, ◌*◌, ◌^◌, ◌<◌, ◌≤◌, add-zero, lit<, ◌&&◌, eqb, length, get_or, take, drop, sym, ap, ◌∙◌, subst}
use Rattle.std.proofs.lemmas.List.{get_or-take, get_or-drop}
use Rattle.psi.specs.Crc.{crc_of}
use Rattle.psi.specs.Packet.{Bytes, byte}
use Rattle.psi.specs.Pmt.{fixed_part, right_crc, before_crc, info_length, crc_field}
use Rattle.psi.specs.Sections.{section_length}
use Rattle.psi.proofs.Shapes.{answered_where, fixed_parts, room_before_crc}
use Rattle.psi.proofs.pmt.section.whole_section.Goals as goal

pub returns : goal.returns
returns c =
    let bs = c.args.bytes.now in
    let told = c.in_ok-crc_place.ensures in
    let k = c.in_ok-crc_place.field-0 in
    let same : c.split_at.result.0.now ≡ before_crc bs = c.split_at.ensures.front ∙ ap (λ n. take n bs) told.1 in
    let four : c.in_ok-first_chunk.field-0.now ≡ take 4 (drop k bs) = c.in_ok-first_chunk.ensures.cases.same ∙ ap (take 4) c.split_at.ensures.back in
    let at : (j : ℕ) → j < 4 → get_or c.in_ok-first_chunk.field-0.now j 0 ≡ byte bs (section_length bs - 1 + j) =
    λ j h. ap (λ l. get_or l j 0) four ∙ get_or-take 4 (drop k bs) j 0 h ∙ get_or-drop k bs j 0 ∙ ap (λ n. byte bs (n + j)) told.1 in
    let field : c.from_be_bytes-crc.result ≡ crc_field bs =
    c.from_be_bytes-crc.ensures ∙ (λ i. (at 0 (lit< tt) ∙ ap (byte bs) (add-zero (section_length bs - 1))) i * 2 ^ 24 + at 1 (lit< tt) i * 2 ^ 16 + at 2 (lit< tt) i * 2 ^ 8 + at 3 (lit< tt) i) in
    let right : (fixed_part bs && right_crc bs) ≡ eqb c.crc32.result c.from_be_bytes-crc.result =
    λ i. told.0 i && eqb ((ap crc_of (sym same) ∙ sym c.crc32.ensures.value) i) (sym field i) in
    let room = subst (λ (s : Bytes). (12 + info_length s ≤ length s) × (length s ≤ 179)) (sym same) (room_before_crc bs (fixed_parts bs told.0)) in
    answered_where _ _ _ _ _ c.then_some.ensures (λ f. right ∙ f) (λ t. (right ∙ t, same, room.0, room.1))
