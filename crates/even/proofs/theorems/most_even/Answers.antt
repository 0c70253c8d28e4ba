use Rattle.even.proofs.Any.{most_even_parts, most_even}
use Rattle.even.proofs.theorems.most_even.Goals as goal

pub returns : goal.returns
returns c = record { alike = most_even_parts; any = most_even }
