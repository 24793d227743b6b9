use Rattle.std.proofs.Common.{codes, sym, ap, arith}
use Rattle.std.proofs.lemmas.Slice.Eq.{text_from_reads}
use Rattle.sitelog.specs.Lines.{adapter_verb}
use Rattle.sitelog.proofs.verb.of_adapter.Goals as goal

pub returns-in-record : goal.returns-in-record
returns-in-record c =
    sym (ap adapter_verb (text_from_reads c.args.word.now (codes "record") (omega arith) (omega arith, (omega arith, (omega arith, (omega arith, (omega arith, (omega arith, tt))))))))
