use Rattle.night.proofs.RoundTrip.{writes_back}
use Rattle.night.proofs.theorems.writes_back.Goals as goal

pub returns : goal.returns
returns c = writes_back
