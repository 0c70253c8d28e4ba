use Rattle.night.proofs.Tasks.{within}
use Rattle.night.proofs.theorems.within.Goals as goal

pub returns : goal.returns
returns c = within
