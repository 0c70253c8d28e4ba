use Rattle.even.proofs.GroupedDensest.{first_densest}
use Rattle.even.proofs.grouped.first_group_is_densest.Goals as goal

pub returns : goal.returns
returns c = first_densest
