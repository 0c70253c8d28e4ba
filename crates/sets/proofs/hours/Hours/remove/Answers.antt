use Rattle.std.proofs.Common.{arith}
use Rattle.std.proofs.lemmas.Bool.Decides.{nat_tests}
use Rattle.sets.proofs.Members.{has_below}
use Rattle.sets.proofs.hours.Hours.remove.Goals as goal

pub returns : goal.returns
returns c k =
    let only = c.only.ensures k in
    let minus = c.minus.ensures k in
    let below = has_below c.args.self k in
    grind (arith, nat_tests)
