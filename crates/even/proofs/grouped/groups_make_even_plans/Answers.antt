use Rattle.even.proofs.GroupedEven.{grouped_is_even}
use Rattle.even.proofs.grouped.groups_make_even_plans.Goals as goal

pub returns : goal.returns
returns c = grouped_is_even
