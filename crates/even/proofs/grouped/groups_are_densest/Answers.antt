use Rattle.even.proofs.GroupedDensest.{densest_first}
use Rattle.even.proofs.grouped.groups_are_densest.Goals as goal

pub returns : goal.returns
returns c = densest_first
