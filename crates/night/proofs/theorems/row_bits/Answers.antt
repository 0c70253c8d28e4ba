use Rattle.night.proofs.RowBits.{row_bits}
use Rattle.night.proofs.theorems.row_bits.Goals as goal

pub returns : goal.returns
returns c = row_bits
