use Rattle.even.proofs.Scale.{plan_times, even_times, load_times, above_times}
use Rattle.even.proofs.Cost.{cost_times}
use Rattle.even.proofs.theorems.scaled.Goals as goal

pub returns : goal.returns
returns c = record { plan = plan_times; even = even_times; loads = load_times; over = above_times; costs = cost_times }
