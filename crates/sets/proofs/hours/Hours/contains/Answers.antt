use Rattle.std.proofs.Common.{◌≡◌, ◌/◌, ◌^◌, true, ltb, arith}
use Rattle.std.proofs.lemmas.Nat.{and_mask}
use Rattle.std.proofs.lemmas.Bool.Decides.{nat_tests}
use Rattle.sets.specs.Bit.{bit}
use Rattle.sets.specs.Hours.{has}
use Rattle.sets.proofs.hours.Hours.contains.Goals as goal

pub returns-then-i-lt128 : goal.returns-then-i-lt128
unfolding has bit
returns-then-i-lt128 c =
    let l : ltb c.args.i 128 ≡ true = grind (arith, nat_tests) in rw (and_mask (c.args.self.bits / 2 ^ c.args.i) 1, l)

pub returns-else-i-lt128 : goal.returns-else-i-lt128
unfolding has
returns-else-i-lt128 c = grind (arith, nat_tests)
