use Rattle.std.proofs.Common.{◌-◌, vec_items, vec_len}
use Rattle.config.specs.Reading.{text_lines}
use Rattle.config.proofs.ThirdTable.{ReadRows}
use Rattle.config.proofs.tables.read_rows.Given as goal

abbrev pub invariant-loop-rows : goal.invariant-loop-rows
invariant-loop-rows l = ReadRows (text_lines l.initial.reader) l.reader (vec_items l.rows) l.pmts

abbrev pub decreases-loop-rows : goal.decreases-loop-rows
decreases-loop-rows l = 64 - vec_len l.rows
