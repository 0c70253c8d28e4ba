-- A plan in parts that are c times smaller.
use Rattle.std.proofs.Common.{◌≡◌, ℕ, zero, suc, ◌-◌, ◌*◌, ◌<◌, sym, ap, ◌∙◌, mul-le-mul_right, mul_assoc, mul_comm, mul-pos, zero-mul, arith}
use native.Mathlib.Nat.{mul-sub}
use Rattle.fraction.proofs.Sums.{sum_same, sum_mul}
use Rattle.even.specs.Day.{Day, Plan, load, Even, above}
use Rattle.even.specs.Evenest.{times}

pub sub_times : (a b c : ℕ) → (a - b) * c ≡ a * c - b * c
sub_times a b c =
    mul_comm (a - b) c ∙ (mul-sub c a b ∙ (ap (λ v. v - c * b) (mul_comm c a) ∙ ap (λ v. a * c - v) (mul_comm c b)))

-- amounts in smaller parts: loads are as many times the number
pub load_times : (y : Day) (c : ℕ) (x : ℕ → ℕ → ℕ) (s : ℕ) → load y (times c x) s ≡ load y x s * c
unfolding load
load_times y c x s = sum_mul y.tasks (λ j. x j s) c

-- they are a plan
pub plan_times : (y : Day) (d c : ℕ) (x : ℕ → ℕ → ℕ) → 0 < c → Plan y d x → Plan y (d * c) (times c x)
plan_times y d c x pos p =
    record {
      parts = mul-pos p.parts pos;
      all = λ j l. sum_mul y.hours (x j) c ∙ (ap (λ v. v * c) (p.all j l) ∙ mul_assoc (y.work j) d c);
      only = λ j s lj ls off. ap (λ v. v * c) (p.only j s lj ls off) ∙ zero-mul c;
    }

pub times_some : (a c : ℕ) → 0 < a * c → 0 < a
times_some zero c h = rw zero-mul at h
times_some (suc a) c h = omega arith

-- an even one if they were
pub even_times : (y : Day) (c : ℕ) (x : ℕ → ℕ → ℕ) → Even y x → Even y (times c x)
unfolding Even
even_times y c x even j s t lj ls lt done can =
    omega (
      arith,
      load_times y c x s,
      load_times y c x t,
      mul-le-mul_right c (even j s t lj ls lt (times_some (x j s) c done) can),
    )

-- and above a level lies as many times the number
pub above_times : (y : Day) (c : ℕ) (x : ℕ → ℕ → ℕ) (k : ℕ) → above y (times c x) (k * c) ≡ above y x k * c
unfolding above
above_times y c x k =
    sum_same y.hours _ (λ s. (load y x s - k) * c)
    (λ s _. ap (λ v. v - k * c) (load_times y c x s) ∙ sym (sub_times (load y x s) k c))
    ∙ sum_mul y.hours (λ s. load y x s - k) c
