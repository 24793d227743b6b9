use Rattle.std.proofs.Common.{◌≡◌, ◌+◌, ◌<◌, ◌∷◌, length, take, drop, Some, sym, refl, ap, ◌∙◌, add-zero, add-one, arith, length-drop}
use native.Mathlib.Nat.{sub-zero}
use Rattle.std.proofs.lemmas.Bool.{eqb-true, eqb-false}
use Rattle.config.specs.Text.{lines}
use Rattle.config.proofs.Pieces.{lines_none, lines_step, nth_here, nth_none}
use Rattle.config.proofs.reader.Reader.next_line.Goals as goal
use Rattle.config.proofs.reader.Reader.next_line.Goals.{After-after-self}

some : (c : After-after-self) → 0 < length c.args.self.now.rest.now
some c = omega (arith, eqb-false _ 0 (sym c.if-is_empty.ensures))

-- the line that comes off, and the lines left behind it
step : (c : After-after-self) → drop c.args.self.now.line (lines c.args.self.now.text.now) ≡ take c.find-end.result c.args.self.now.rest.now ∷ lines c.after-self.result.now
step c =
    let told = c.find-end.ensures in
    sym c.args.self.now.place
    ∙ lines_step c.args.self.now.rest.now c.find-end.result (record { bound = told.within; free = told.before; at = told.found }) (some c)
    ∙ ap (λ r. take c.find-end.result c.args.self.now.rest.now ∷ lines r) (sym c.after-self.ensures)

pub returns-then-is_empty : goal.returns-then-is_empty
returns-then-is_empty c =
    let ended = nth_none (lines c.args.self.now.text.now) c.args.self.now.line (sym c.args.self.now.place ∙ lines_none _ (eqb-true _ 0 (sym c.if-is_empty.ensures))) in
    record {
      number = c.new.ensures.number ∙ add-one _;
      bytes = c.new.ensures.bytes ∙ sym ended;
      same = refl;
      behind = rw ended (sym (add-zero _));
    }

pub invariant_of-self : goal.invariant_of-self
invariant_of-self c =
    let left = ap length c.after-self.ensures ∙ length-drop (c.find-end.result + 1) c.args.self.now.rest.now in record {
      place = sym (nth_here (lines c.args.self.now.text.now) c.args.self.now.line _ _ (step (goal.at.invariant_of-self c).After-after-self)).1;
      short = omega (arith, left, some (goal.at.invariant_of-self c).After-after-self, c.args.self.now.short);
    }

pub returns : goal.returns
returns c =
    let line = (nth_here (lines c.args.self.now.text.now) c.args.self.now.line _ _ (step (goal.at.returns c).After-after-self)).0 in
    record {
      number = c.new-2.ensures.number ∙ add-one _;
      bytes = c.new-2.ensures.bytes ∙ ap (λ n. Some (take n c.args.self.now.rest.now)) (sub-zero c.find-end.result) ∙ sym line;
      same = refl;
      behind = rw line refl;
    }
