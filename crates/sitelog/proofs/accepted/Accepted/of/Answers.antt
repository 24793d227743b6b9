use Rattle.std.proofs.Common.{rules, refl}
use Rattle.config.specs.Setup.{setup}
use Rattle.sitelog.proofs.accepted.Accepted.of.Goals as goal

pub returns-in-Ok : goal.returns-in-Ok
returns-in-Ok c = record { same = refl; writes = setup c.in-Ok.field-0; answered = search rules }
