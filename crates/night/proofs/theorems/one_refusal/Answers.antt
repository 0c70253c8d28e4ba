use Rattle.night.proofs.OneRefusal.{one_refusal}
use Rattle.night.proofs.theorems.one_refusal.Goals as goal

pub returns : goal.returns
returns c = one_refusal
