use Rattle.std.proofs.Common.{◌^◌, ◌<◌, arith}
use Rattle.std.proofs.lemmas.Nat.{ones-le}
use Rattle.sets.proofs.Members.{size_bits}
use Rattle.sets.proofs.hours.Hours.count.Goals as goal

pub overflow_cast-result : goal.overflow_cast-result
overflow_cast-result c =
    let f : c.args.self.bits < 2 ^ 128 = omega arith in omega (arith, ones-le 128 c.args.self.bits f)

pub returns : goal.returns
returns c = size_bits c.args.self (omega arith)
