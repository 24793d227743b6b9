use Rattle.std.proofs.Common.{ap, ◌∙◌}
use Rattle.std.specs.List.{position}
use Rattle.config.specs.Setup.{setup}
use Rattle.psi.specs.Lookup.{fits}
use Rattle.psi.proofs.Lookups.{alone, placed}
use Rattle.psi.proofs.lookup.row_of.Goals as goal

pub returns : goal.returns
returns c =
    let config = c.args.config.now in
    let rows = (setup config).rows in
    let value = c.number_of.ensures ∙ ap (position (fits c.args.parent c.args.pid)) c.rows.ensures ∙ placed rows c.args.parent c.args.pid in
    record { value = value; alone = λ k h there. value ∙ alone rows c.args.parent c.args.pid config.apart k h there }
