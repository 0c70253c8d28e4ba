use Rattle.even.proofs.Peak.{peak_densest}
use Rattle.even.proofs.theorems.peak_is_densest.Goals as goal

pub returns : goal.returns
returns c = peak_densest
