use Rattle.std.proofs.Common.{sym, ap, subst, arith}
use Rattle.config.specs.Setup.{setup}
use Rattle.memory.specs.Memory.{lines_in, backlog_in, size_in}
use Rattle.adapter.specs.Placing.{Admitted, AllWhole}
use Rattle.adapter.proofs.Turns.{going_start, going_more, going_end, has_place, lines_in_order, whole_joins, whole_before}
use Rattle.adapter.proofs.place.frames.place.Goals as goal

pub loop-slot-init : goal.loop-slot-init
loop-slot-init g c =
    going_start g.C.Carrier.meaning (setup c.args.config.now) c.args.frame.now c.args.doubt c.args.adding c.args.memory.now _ c.requires.lines_in_order c.requires.all_whole.0 c.requires.all_whole.1 c.requires.doubt_within

pub admit_before-admitted-requires-clause-lines_in_order : goal.admit_before-admitted-requires-clause-lines_in_order
admit_before-admitted-requires-clause-lines_in_order g c = lines_in_order (lines_in c.loop-slot.memory) c.loop-slot.invariant.rises

pub fill-course-requires : goal.fill-course-requires
fill-course-requires g c =
    let h = c.loop-slot.invariant in
    let a = c.admit_before-admitted.ensures in record {
      all_whole = subst AllWhole (sym a.backlog) (whole_joins (size_in c.loop-slot.memory) (backlog_in c.loop-slot.memory) _ h.whole_backlog (whole_before _ _ h.whole_lines));
      place_free = λ adding. has_place g.C.Carrier.meaning c.args.adding h.put _ _ adding h.goes (omega (arith, h.many, c.requires.places_free adding, ap (λ f. f.slots) c.frame.view_is));
    }

pub loop-slot-preserved : goal.loop-slot-preserved
loop-slot-preserved g c =
    let h = c.loop-slot.invariant in
    let admitted = subst (λ lim. Admitted lim c.loop-slot.memory c.admit_before-admitted.new.memory c.loop-slot.course c.admit_before-admitted.result) c.limit_of-limit.ensures c.admit_before-admitted.ensures in
    going_more g.C.Carrier.meaning (setup c.args.config.now) c.args.frame.now c.args.doubt c.args.adding c.args.memory.now c.loop-slot.memory _ _ _ _ _ c.loop-slot.course _ _ c.loop-slot.slot
    c.requires.shared (omega (arith, ap (λ f. f.slots) c.frame.view_is)) h admitted c.fill-course.ensures.filled c.fill-course.ensures.goes

pub returns-clause-placed : goal.returns-clause-placed
returns-clause-placed g c =
    (going_end g.C.Carrier.meaning (setup c.args.config.now) c.args.frame.now c.args.doubt c.args.adding c.args.memory.now c.loop-slot.memory _ _ c.loop-slot.course c.loop-slot.slot
    (omega (arith, ap (λ f. f.slots) c.frame.view_is)) c.requires.frame_in_range.0 c.loop-slot.invariant).0
