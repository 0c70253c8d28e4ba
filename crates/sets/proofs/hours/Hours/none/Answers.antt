use Rattle.sets.proofs.Members.{has_blank}
use Rattle.sets.proofs.hours.Hours.none.Goals as goal

pub returns : goal.returns
returns c = has_blank
