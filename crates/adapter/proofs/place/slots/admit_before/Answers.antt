use Rattle.std.proofs.Common.{◌≡◌, List, [], ◌∷◌, get_or, refl, ◌∙◌, arith}
use Rattle.memory.specs.Memory.{lines_in, line_in}
use Rattle.rules.proofs.Merging.{rising_by, in_order_rises, length_merged_first}
use Rattle.rules.proofs.Placing.{admitting_start, admitting_end, settled, lines_after}
use Rattle.rules.specs.Entries.{Entry}
use Rattle.adapter.specs.Placing.{AdmittedOne}
use Rattle.adapter.proofs.Admissions.{admit_step, rises_on, later_stay, one_fewer, drops_fit}
use Rattle.adapter.proofs.Keeping.{same_then, unchanged}
use Rattle.adapter.proofs.Nexts.{front, none_before, earliest}
use Rattle.adapter.proofs.place.slots.admit_before.Goals as goal

pub loop-p-init : goal.loop-p-init
loop-p-init c =
    let m = c.args.memory.now in (
      admitting_start _ _ _ _ _ _ c.requires.doubt_within,
      rising_by (lines_in m) (λ q k. in_order_rises (get_or (lines_in m) q []) (c.requires.lines_in_order q)),
      refl,
      omega arith,
      refl,
      (unchanged m).shares,
    )

-- the entry that is admitted, and what is left of its line
line : (c : goal.After-admit_one-course) → (rest : List Entry) × (get_or (lines_in c.loop-p.memory) c.in-Some.p [] ≡ c.in-Some.ensures.0 ∷ rest)
line c = front (get_or (lines_in c.loop-p.memory) c.in-Some.p []) c.in-Some.ensures.0 c.in-Some.ensures.1.first

one : (c : goal.After-admit_one-course) → AdmittedOne c.in-Some.p c.in-Some.ensures.0 (line c).0 c.loop-p.memory c.admit_one-course.new.memory c.loop-p.course c.admit_one-course.result
unfolding line_in
one c = c.admit_one-course.ensures.one c.in-Some.ensures.0 (line c).0 (line c).1

pub loop-p-smaller : goal.loop-p-smaller
loop-p-smaller c =
    let fewer = one_fewer c.args.limit _ _ _ _ _ _ _ c.loop-p.invariant.1 c.in-Some.ensures.1 (line c).1 (one c) in
    omega arith

pub loop-p-preserved : goal.loop-p-preserved
loop-p-preserved c =
    let i = c.loop-p.invariant in
    let first = c.in-Some.ensures.1 in
    let l = line c in
    let o = one c in (
      admit_step c.args.limit _ _ _ _ _ _ _ i.1 first l.1 o _ _ _ _ _ i.5.size i.0,
      rises_on c.args.limit _ _ _ _ _ _ _ i.1 first l.1 o,
      later_stay c.args.limit _ _ _ _ _ _ _ i.1 first l.1 o ∙ i.2,
      omega (arith, drops_fit c.args.limit _ _ _ _ _ _ _ i.1 first l.1 o, i.3),
      o.zero ∙ i.4,
      same_then _ _ _ i.5 c.admit_one-course.ensures.shares,
    )

pub returns : goal.returns
returns c =
    let i = c.loop-p.invariant in
    let none = none_before c.args.limit _ (lines_in c.loop-p.memory) c.in_default.ensures in
    let all = admitting_end _ _ _ _ _ _ _ _ _ _ i.0 (settled c.args.limit (lines_in c.loop-p.memory) i.1 none) in
    record {
      lines = lines_after c.args.limit (lines_in c.args.memory.now) (lines_in c.loop-p.memory) i.2 none;
      backlog = all.backlog;
      counts = all.lost;
      doubts = all.raised;
      zero = i.4;
      shares = i.5;
      fits = i.3;
    }

pub admit_one-course-requires-clause-drops_fit : goal.admit_one-course-requires-clause-drops_fit
admit_one-course-requires-clause-drops_fit c =
    let i = c.loop-p.invariant in
    let ls = lines_in c.loop-p.memory in
    let first = c.in-Some.ensures.1 in
    let l = front (get_or ls c.in-Some.p []) c.in-Some.ensures.0 first.first in
    let more = length_merged_first ls c.in-Some.p c.in-Some.ensures.0 l.0 i.1 (earliest c.args.limit ls c.in-Some.p c.in-Some.ensures.0 l.0 first l.1) in
    omega (arith, i.3, c.requires.drops_fit)
