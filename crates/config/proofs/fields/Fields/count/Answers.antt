use Rattle.std.proofs.Common.{◌+◌, sym, subst}
use Rattle.config.proofs.Pieces.{Spaces, spaces_none, space_more, other_more, spaces_all}
use Rattle.config.proofs.fields.Fields.count.Goals as goal
use Rattle.config.proofs.fields.Fields.count.Goals.{then-b-eq32, else-b-eq32}

pub loop-b-init : goal.loop-b-init
loop-b-init c = spaces_none _

pub loop-b-preserved : goal.loop-b-preserved
loop-b-preserved c =
    let line = c.args.self.now.bytes.now in
    let i = c.loop-b.b-index in
    elim c.if-b-eq32.branch [
      | then-b-eq32 w ↦ subst (Spaces line (i + 1)) (sym w.spaces-is) (space_more line i _ c.loop-b-test.true c.loop-b.invariant w.if-b-eq32.true)
      | else-b-eq32 w ↦ subst (Spaces line (i + 1)) (sym w.spaces-is) (other_more line i _ c.loop-b-test.true c.loop-b.invariant w.if-b-eq32.false)
    ]

pub returns : goal.returns
returns c = spaces_all _ _ _ c.loop-b-test.false c.loop-b.invariant
