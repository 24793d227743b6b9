use Rattle.std.proofs.Common.{◌≡◌, ◌∷◌, take, sym, ap, ◌∙◌}
use native.Mathlib.Nat.{sub-zero}
use Rattle.config.specs.Text.{fields}
use Rattle.config.proofs.Pieces.{Stops, fields_more, fields_last}
use Rattle.sitelog.specs.Splits.{words_in}
use Rattle.sitelog.proofs.words.Words.next.Goals as goal
use Rattle.sitelog.proofs.words.Words.next.Goals.{then-end-bytes, else-end-bytes, Joined-end-bytes}

-- the word that comes off, and the words left behind it
step : (c : Joined-end-bytes) → words_in c.args.self.now.rest ≡ take c.find-end.result c.in_ok-bytes.bytes.now ∷ words_in c.if-end-bytes.self
step c =
    let told = c.find-end.ensures in
    let bytes = c.in_ok-bytes.bytes.now in
    let end = c.find-end.result in
    let stops : Stops 32 bytes end = record { bound = told.within; free = told.before; at = told.found } in
    ap words_in c.in_ok-bytes.was
    ∙ elim c.if-end-bytes.branch [
      | then-end-bytes w ↦ fields_more bytes end stops w.if-end-bytes.true ∙ ap (λ r. take end bytes ∷ r) (ap fields (sym w.after.ensures) ∙ ap words_in (sym w.self-is))
      | else-end-bytes w ↦ fields_last bytes end stops w.if-end-bytes.false ∙ ap (λ r. take end bytes ∷ words_in r) (sym w.self-is)
    ]

pub returns : goal.returns
returns c =
    step (goal.at.returns c).Joined-end-bytes
    ∙ ap (λ n. take n c.in_ok-bytes.bytes.now ∷ words_in c.if-end-bytes.self) (sym (sub-zero c.find-end.result))
