use Rattle.even.proofs.Any.{lowest_peak}
use Rattle.even.proofs.theorems.lowest_peak.Goals as goal

pub returns : goal.returns
returns c = lowest_peak
