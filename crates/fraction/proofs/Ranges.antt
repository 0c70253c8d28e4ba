-- Nothing that a plan needs passes the product of the limits.
use Rattle.std.proofs.Common.{ℕ, ◌*◌, ◌≤◌, mul-le-mul, arith}
use Rattle.fraction.specs.Sum.{sum}
use Rattle.fraction.specs.Limits.{max_hours, max_tasks, max_units}
use Rattle.fraction.specs.Range.{Limited, Bounded, Bounds}
use Rattle.fraction.proofs.Sums.{sum_at, sum_bound, sum_mul}

module _ {tasks hours : ℕ} {work : ℕ → ℕ} (l : Limited tasks hours work) where
  total_le : sum tasks work ≤ max_tasks * max_units
  total_le =
      omega
      (arith, sum_bound tasks work max_units l.few_units, l.few_tasks)

  product_le : (p q : ℕ) → p ≤ sum tasks work → q ≤ hours → p * q ≤ max_tasks * max_units * max_hours
  product_le p q h k =
      mul-le-mul {n₁ = p} {m₁ = q} {n₂ = max_tasks * max_units} {m₂ = max_hours} (omega (arith, total_le)) (omega (arith, l.few_hours))

  pub limited_bounded : Bounded (max_tasks * max_units * max_hours) tasks hours work
  limited_bounded =
      record {
        numerators = omega (arith, total_le);
        denominators = omega (arith, l.few_hours);
        supply = λ j q h k. product_le (work j) q (sum_at tasks work j h) k;
        supplies = λ q k. omega (arith, sum_mul tasks work q, product_le (sum tasks work) q (omega arith) k);
        products = product_le;
      }

pub largest_bounds : Bounds (max_tasks * max_units * max_hours)
largest_bounds tasks hours work l = limited_bounded l
