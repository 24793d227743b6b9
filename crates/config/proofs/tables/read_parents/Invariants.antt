use Rattle.std.proofs.Common.{◌-◌, vec_items, vec_len}
use Rattle.config.specs.Reading.{text_lines}
use Rattle.config.proofs.SecondTable.{ReadParents}
use Rattle.config.proofs.tables.read_parents.Given as goal

abbrev pub invariant-loop-rates : goal.invariant-loop-rates
invariant-loop-rates l = ReadParents (text_lines l.initial.reader) l.reader (vec_items l.rates)

abbrev pub decreases-loop-rates : goal.decreases-loop-rates
decreases-loop-rates l = 4 - vec_len l.rates
