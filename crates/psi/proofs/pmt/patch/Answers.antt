use Rattle.std.proofs.Common.{◌≡◌, ◌%◌, true, ◌&&◌, [], ◌∷◌, ◌++◌, get_or, drop, Some, sym, ap, ◌∙◌, subst}
use Rattle.psi.specs.Packet.{Bytes, byte, pid_high, filled}
use Rattle.psi.specs.Places.{written}
use Rattle.psi.specs.Pmt.{fixed_part, right_crc, before_crc, section_body, section_with, patch_section, SectionWritten}
use Rattle.psi.specs.Sections.{closed}
use Rattle.psi.proofs.Again.{told}
use Rattle.psi.proofs.Shapes.{patched_some, closed_pmt, opens_parts, told_some}
use Rattle.psi.proofs.pmt.patch.Goals as goal
use Rattle.psi.proofs.pmt.patch.Goals.{In_ok-section, After-put_section}

sound : (c : In_ok-section) → (fixed_part (drop 5 c.args.packet.now) && right_crc (drop 5 c.args.packet.now)) ≡ true
sound c = subst (λ (bs : Bytes). (fixed_part bs && right_crc bs) ≡ true) c.in_ok-opened.ensures.1 c.in_ok-section.ensures.0

-- what was written of the section
wrote : (c : After-put_section)
    → SectionWritten c.args.rows.now c.args.row.now (written c.put_all.new.self) (before_crc (drop 5 c.args.packet.now)) (written c.put_section.new.place) c.put_section.result
wrote c =
    subst (λ (s : Bytes). SectionWritten c.args.rows.now c.args.row.now (written c.put_all.new.self) s (written c.put_section.new.place) c.put_section.result)
    (c.in_ok-section.ensures.1 ∙ ap before_crc c.in_ok-opened.ensures.1) c.put_section.ensures.written

pub returns : goal.returns
returns c =
    let d = (goal.at.returns c).After-put_section in
    let x = c.args.packet.now in
    let row = c.args.row.now in
    let rows = c.args.rows.now in
    let s : Bytes = before_crc (drop 5 x) in
    let opened = c.in_ok-opened.ensures.0 in
    let got = told_some _ c.put_section.result _ (wrote d) tt c.in_ok-put_section.was in
    let head : written c.put_all.new.self ≡ 0x47 ∷ pid_high (byte x 1) row.out ∷ row.out % 0x100 ∷ byte x 3 ∷ 0x00 ∷ [] =
    c.put_all.ensures.written ∙ (λ i. c.new-place.ensures.written i ++ (0x47 ∷ get_or (c.with_number.ensures i) 0 0 ∷ get_or (c.with_number.ensures i) 1 0 ∷ byte x 3 ∷ 0x00 ∷ [])) in
    told rows row x (Some c.finish.result) (λ i. (c.type_inv.packet i).fits)
    (ap Some
    (c.finish.ensures
    ∙ ap filled (c.close.ensures ∙ ap closed (got.2 ∙ (λ i. head i ++ (0x02 ∷ byte s 1 ∷ byte s 2 ∷ section_body (patch_section rows row (section_with s got.0))))) ∙ closed_pmt rows row x s got.0 (opens_parts x opened)))
    ∙ sym (patched_some rows row x got.0 opened (sound (goal.at.returns c).In_ok-section) got.1))
