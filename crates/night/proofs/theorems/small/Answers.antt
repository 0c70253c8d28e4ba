use Rattle.night.proofs.Tasks.{small}
use Rattle.night.proofs.theorems.small.Goals as goal

pub returns : goal.returns
returns c = small
