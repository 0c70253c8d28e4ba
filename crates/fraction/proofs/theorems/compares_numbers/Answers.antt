use Rattle.fraction.specs.OrderLaws.{less_by_cmp, at_most_by_cmp, same_by_eq}
use Rattle.fraction.proofs.theorems.compares_numbers.Goals as goal

pub returns : goal.returns
returns c = record { less = less_by_cmp; most = at_most_by_cmp; same = same_by_eq }
