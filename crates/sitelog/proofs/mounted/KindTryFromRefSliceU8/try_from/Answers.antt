use Rattle.std.proofs.Common.{codes, sym, ap, arith}
use Rattle.std.proofs.lemmas.Slice.Eq.{text_from_reads}
use Rattle.sitelog.specs.Lines.{kind_in}
use Rattle.sitelog.proofs.mounted.KindTryFromRefSliceU8.try_from.Goals as goal

pub returns-in-folded : goal.returns-in-folded
returns-in-folded c =
    sym (ap kind_in (text_from_reads c.args.word.now (codes "folded") (omega arith) (omega arith, (omega arith, (omega arith, (omega arith, (omega arith, (omega arith, tt))))))))
