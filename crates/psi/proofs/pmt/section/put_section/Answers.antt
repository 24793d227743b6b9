use Rattle.std.proofs.Common.{◌≡◌, ◌%◌, [], ◌∷◌, ◌++◌, get_or, take, drop, unwrap_or, ap, ◌∙◌, subst}
use Rattle.std.proofs.lemmas.List.{take_rest, drop-drop}
use Rattle.psi.specs.Lookup.{out_of}
use Rattle.psi.specs.Packet.{Bytes, byte, pid_in, pid_high}
use Rattle.psi.specs.Places.{written}
use Rattle.psi.specs.Pmt.{stream_part, streams_of, info_length, no_pcr, StreamsWritten}
use Rattle.psi.proofs.Shapes.{section_shape, section_from}
use Rattle.psi.proofs.pmt.section.put_section.Goals as goal

pub returns-clause-written : goal.returns-clause-written
returns-clause-written c =
    let s = c.args.section.now in
    let row = c.args.row.now in
    let rows = c.args.rows.now in
    let w = written c.args.place.now in
    let n = info_length s in
    let pcr : c.unwrap_or-pcr_out.result ≡ unwrap_or (out_of rows row.parent (pid_in (byte s 8) (byte s 9))) no_pcr =
    c.unwrap_or-pcr_out.ensures ∙ ap (λ o. unwrap_or o no_pcr) (c.out_of.ensures ∙ ap (out_of rows row.parent) c.number_in-pcr.ensures) in
    let service = c.to_be_bytes.ensures in
    let out = c.with_number.ensures in
    let count : c.from.result ≡ n = c.from.ensures ∙ c.number_in-info_length.ensures in
    let info : c.split_at.result.0.now ≡ take n (drop 12 s) = c.split_at.ensures.front ∙ (λ i. take (count i) (take_rest s 12 i)) in
    let streams : c.split_at.result.1.now ≡ stream_part s = c.split_at.ensures.back ∙ (λ i. drop (count i) (take_rest s 12 i)) ∙ drop-drop n 12 s in
    let before : written c.put_all-3.new.self ≡ ((w ++ (0x02 ∷ byte s 1 ∷ byte s 2 ∷ get_or c.to_be_bytes.result 0 0 ∷ get_or c.to_be_bytes.result 1 0 ∷ byte s 5 ∷ 0x00 ∷ 0x00 ∷ [])) ++ (pid_high (byte s 8) c.unwrap_or-pcr_out.result ∷ c.unwrap_or-pcr_out.result % 0x100 ∷ byte s 10 ∷ byte s 11 ∷ [])) ++ take n (drop 12 s) =
    c.put_all-3.ensures.written
    ∙ (λ i. (c.put_all-2.ensures.written ∙ (λ j. c.put_all.ensures.written j ++ (get_or (out j) 0 0 ∷ get_or (out j) 1 0 ∷ byte s 10 ∷ byte s 11 ∷ []))) i ++ info i) in
    section_from rows row (written c.put_all-3.new.self) (written c.put_streams.new.place) w s c.put_streams.result (streams_of (stream_part s))
    (subst (λ (l : Bytes). StreamsWritten rows row.parent (written c.put_all-3.new.self) (streams_of l) (written c.put_streams.new.place) c.put_streams.result) streams c.put_streams.ensures.written)
    (λ es. section_shape rows row w s _ _ _ _ es before (ap (λ (l : Bytes). get_or l 0 0) service) (ap (λ (l : Bytes). get_or l 1 0) service) pcr c.requires.0 (c.type_inv.section 11).fits)
