use Rattle.std.proofs.Common.{arith}
use Rattle.sheet.proofs.Words.{value_zeros}
use Rattle.sheet.proofs.tally.Tally.new.Goals as goal

pub returns : goal.returns
returns c = omega (arith, value_zeros)
