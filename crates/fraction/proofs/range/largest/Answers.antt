use Rattle.fraction.proofs.Ranges.{largest_bounds}
use Rattle.fraction.proofs.range.largest.Goals as goal

pub returns-clause-bounds : goal.returns-clause-bounds
returns-clause-bounds c = largest_bounds
