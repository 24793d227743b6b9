use Rattle.std.proofs.Common.{◌≡◌, [], ◌∷◌, get_or, take, drop, sym, refl, ap, ◌∙◌}
use Rattle.config.specs.Reading.{fields_in}
use Rattle.config.specs.Text.{fields}
use Rattle.config.proofs.Pieces.{Stops, fields_more, fields_last}
use Rattle.config.proofs.fields.Fields.next.Goals as goal
use Rattle.config.proofs.fields.Fields.next.Goals.{then-end-bytes, else-end-bytes, Joined-end-bytes}

-- the field that comes off, and the fields left behind it
step : (c : Joined-end-bytes) → fields_in c.args.self.now.rest ≡ take c.find-end.result c.in-Some.bytes.now ∷ fields_in c.if-end-bytes.self
step c =
    let told = c.find-end.ensures in
    let bytes = c.in-Some.bytes.now in
    let stops : Stops 32 bytes c.find-end.result = record { bound = told.within; free = told.before; at = told.found } in
    ap fields_in c.in-Some.is
    ∙ elim c.if-end-bytes.branch [
      | then-end-bytes w ↦ fields_more bytes c.find-end.result stops w.if-end-bytes.true ∙ ap (λ r. take c.find-end.result bytes ∷ r) (ap fields (sym w.after.ensures) ∙ ap fields_in (sym w.self-is))
      | else-end-bytes w ↦ fields_last bytes c.find-end.result stops w.if-end-bytes.false ∙ ap (λ r. take c.find-end.result bytes ∷ fields_in r) (sym w.self-is)
    ]

pub returns : goal.returns
returns c =
    let off = step (goal.at.returns c).Joined-end-bytes in
    record {
      value = sym (ap (λ fs. get_or fs 0 []) off);
      moved = record { rest = sym (ap (drop 1) off); same_line = refl; same_bytes = refl };
    }
