use Rattle.std.proofs.Common.{codes, sym, ap, arith}
use Rattle.std.proofs.lemmas.Slice.Eq.{text_from_reads}
use Rattle.sitelog.specs.Lines.{carrier_verb}
use Rattle.sitelog.proofs.verb.of_carrier.Goals as goal

pub returns-in-carrier : goal.returns-in-carrier
returns-in-carrier c =
    sym (ap carrier_verb (text_from_reads c.args.word.now (codes "carrier") (omega arith) (omega arith, (omega arith, (omega arith, (omega arith, (omega arith, (omega arith, (omega arith, tt)))))))))
