use Rattle.std.proofs.Common.{arith}
use Rattle.sets.proofs.Members.{empty_bits}
use Rattle.sets.proofs.hours.Hours.is_empty.Goals as goal

pub returns : goal.returns
returns c = empty_bits c.args.self (omega arith)
