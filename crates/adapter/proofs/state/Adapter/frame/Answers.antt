use Rattle.std.proofs.Common.{sym, refl, ap, ◌∙◌, arith}
use Rattle.std.proofs.lemmas.Result.{err_from_is_err_and}
use Rattle.rules.specs.Calls as calls
use Rattle.rules.specs.Calls.{Frames, crowded}
use Rattle.adapter.specs.View.{view, setup_of, entries_of, hearings_in}
use Rattle.adapter.proofs.Placed.{clear_holds, equal_holds, held_up, skips_so, in_step_is}
use Rattle.adapter.proofs.state.Adapter.frame.Goals as goal

pub returns-in_err-number : goal.returns-in_err-number
returns-in_err-number g c =
    let a = c.args.self.now in
    let err = err_from_is_err_and c.from_residual.result c.from_residual.ensures.1 in
    let rule = held_up a (g.C.Carrier.meaning c.args.carrier.now) _ c.in_err-number.ensures in
    rw (err.1, err.2)
    record { rule = rule; same = record { config = refl; entries = refl }; untouched = refl; clear = clear_holds a _ _ _ _ rule; equal = equal_holds a _ _ _ _ rule }

pub returns-in-Skips : goal.returns-in-Skips
returns-in-Skips g c =
    let a = c.args.self.now in
    let due = rw c.in-Skips.is at c.in_ok-number.ensures in
    let rule = skips_so a (g.C.Carrier.meaning c.args.carrier.now) c.in-Skips.number c.in-Skips.since (view c.skip.new.self) due.0 due.1 c.skip.ensures.after in
    record { rule = rule; same = c.skip.ensures.same; untouched = refl; clear = clear_holds a _ _ _ _ rule; equal = equal_holds a _ _ _ _ rule }

pub returns-then-free-frame : goal.returns-then-free-frame
returns-then-free-frame g c =
    let a = c.args.self.now in
    let k = (g.C.Carrier.meaning c.args.carrier.now) in
    let due = rw c.in-Places.is at c.in_ok-number.ensures in
    let rule : Frames (setup_of a) (entries_of a) (view a) k (calls.refused_frame 14) (view a) k =
    crowded c.in-Places.frame due.rest (hearings_in a) due.due (in_step_is a.step (sym c.adds-adding.ensures ∙ c.if-adding.true)) (omega (arith, c.free.ensures, ap (λ f. f.slots) c.frame.view_is)) refl refl refl in
    record { rule = rule; same = record { config = refl; entries = refl }; untouched = refl; clear = clear_holds a _ _ _ _ rule; equal = equal_holds a _ _ _ _ rule }

pub returns-then-adding-2 : goal.returns-then-adding-2
returns-then-adding-2 g c =
    let a = c.args.self.now in
    let adds = sym c.adds-adding.ensures ∙ c.if-adding-2.true in
    let rule = rw adds at c.place_now-number.ensures.rule in
    record { rule = rule; same = c.place_now-number.ensures.same; untouched = tt; clear = clear_holds a _ _ _ _ rule; equal = equal_holds a _ _ _ _ rule }

pub returns-else-adding-2 : goal.returns-else-adding-2
returns-else-adding-2 g c =
    let a = c.args.self.now in
    let adds = sym c.adds-adding.ensures ∙ c.if-adding-2.false in
    let rule = rw adds at c.place_now-number.ensures.rule in
    record { rule = rule; same = c.place_now-number.ensures.same; untouched = c.place_now-number.ensures.kept adds; clear = clear_holds a _ _ _ _ rule; equal = equal_holds a _ _ _ _ rule }
