use Rattle.psi.specs.Crc.{crc_byte, crc_bit}
use Rattle.psi.proofs.Crcs.{right, tabled}
use Rattle.psi.proofs.crc.step.Goals as goal

-- the table's rule, tested at each of its entries
pub entry-requires : goal.entry-requires
unfolding right crc_byte crc_bit
entry-requires c = tabled _ tt
