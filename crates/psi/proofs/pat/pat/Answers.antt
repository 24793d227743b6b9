use Rattle.std.proofs.Common.{◌+◌, ◌%◌, ◌≤◌, [], ◌∷◌, ◌++◌, get_or, Some, None, sym, ap, ◌∙◌, arith}
use Rattle.std.proofs.lemmas.Bool.{cond-true, le-leb}
use Rattle.config.specs.Rows.{pmts}
use Rattle.psi.specs.Packet.{Bytes, filled}
use Rattle.psi.specs.Sections.{closed}
use Rattle.psi.specs.Pat.{programs, pat_packet}
use Rattle.psi.proofs.Pats.{closed_pat}
use Rattle.psi.proofs.pat.pat.Goals as goal

pub returns : goal.returns
unfolding pat_packet
returns c =
    let few : pmts c.args.rows.now ≤ 42 = omega (arith, c.services_in.ensures) in
    let ps = programs c.args.rows.now in
    let b3 = 0x10 + c.args.counter % 16 in
    let tsid = c.to_be_bytes.ensures in
    ap Some
    (c.finish.ensures
    ∙ ap filled
    (c.close.ensures
    ∙ ap closed
    (c.put_programs.ensures.written
    ∙ ap (λ (l : Bytes). l ++ ps) (c.put_all-2.ensures.written ∙ ap (λ (l : Bytes). l ++ (0x00 ∷ 0xB0 ∷ 0x00 ∷ get_or c.to_be_bytes.result 0 0 ∷ get_or c.to_be_bytes.result 1 0 ∷ 0xC1 ∷ 0x00 ∷ 0x00 ∷ [])) c.put_all.ensures.written)
    ∙ (λ i. ((c.new-place.ensures.written i ++ (0x47 ∷ 0x40 ∷ 0x00 ∷ b3 ∷ 0x00 ∷ [])) ++ (0x00 ∷ 0xB0 ∷ 0x00 ∷ get_or (tsid i) 0 0 ∷ get_or (tsid i) 1 0 ∷ 0xC1 ∷ 0x00 ∷ 0x00 ∷ [])) ++ ps))
    ∙ closed_pat b3 _ _ ps))
    ∙ sym (cond-true _ _ None (le-leb _ 42 few))
