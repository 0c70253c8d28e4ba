use Rattle.night.proofs.RoundTrip.{reads_back}
use Rattle.night.proofs.theorems.reads_back.Goals as goal

pub returns : goal.returns
returns c = reads_back
