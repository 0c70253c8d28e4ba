-- Laws of lists of tasks.
use Rattle.std.proofs.Common.{◌≡◌, ℕ, ◌*◌, ◌^◌, ◌<◌, true, List, length, get_or, mul-le-mul_right, arith}
use Rattle.night.specs.declared.task.Task.{Task}
use Rattle.fraction.proofs.Sums.{sum_bound}
use Rattle.fraction.specs.Limits.{max_hours, max_units}
use Rattle.fraction.specs.Sum.{sum}
use Rattle.night.specs.Task.{blank_task, may, units, Sound}
use Rattle.night.proofs.Rows.{has_within}

-- the units of all tasks together
pub small : (n : ℕ) (ts : List Task) → Sound n ts → sum (length ts) (units ts) * max_hours < 2 ^ 63
small n ts g =
    omega (arith, sum_bound (length ts) (units ts) max_units (λ j l. (g.each j l).0), mul-le-mul_right max_units g.few)

-- the hours of each task
pub within : (n : ℕ) (ts : List Task) → Sound n ts → (j k : ℕ) → j < length ts → may ts j k ≡ true → k < n
within n ts g j k l m = has_within (get_or ts j blank_task).hours n k (g.each j l).2 m
