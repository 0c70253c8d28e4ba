-- Any even plan of any day beside others, over denominators of their own.
use Rattle.std.proofs.Common.{◌≡◌, ℕ, suc, ◌-◌, ◌*◌, ◌<◌, ◌≤◌, Bool, false, eqb, sym, refl, ◌∙◌, mul-le-mul_right, mul_comm, mul-pos, arith}
use Rattle.std.proofs.lemmas.Bool.Decides.{nat_tests}
use Rattle.std.proofs.lemmas.Bool.{ne_eqb}
use Rattle.fraction.specs.Sum.{sum}
use Rattle.fraction.proofs.Sums.{sum_is_zero, sum_zero}
use Rattle.even.specs.Day.{Day, Plan, load, Even, above}
use Rattle.even.specs.Evenest.{times, AsEven, AsLow, Same}
use Rattle.even.specs.More.{Within, NoMore, raised, longer, shorter, skip}
use Rattle.even.specs.Tariff.{AsCheap}
use Rattle.even.proofs.Least.{least}
use Rattle.even.proofs.More.{more_loads}
use Rattle.even.proofs.Scale.{load_times, plan_times, even_times}
use Rattle.even.proofs.Cost.{cost_times, cost_least}

-- above every level lies least of an even plan, in the same parts
pub most_even_parts :
    (y : Day) (d k : ℕ) (x z : ℕ → ℕ → ℕ) → Plan y d x → Even y x → Plan y d z → above y x k ≤ above y z k
unfolding load Even above
most_even_parts y d k x z p even q =
    least y.tasks y.hours y.may x z k even (λ j l. p.all j l ∙ sym (q.all j l)) q.only

-- and in parts of any two sizes
pub most_even :
    (y : Day) (d e : ℕ) (x z : ℕ → ℕ → ℕ) → Plan y d x → Even y x → Plan y e z → AsEven y d x e z
most_even y d e x z p even q k =
    most_even_parts y (d * e) k (times e x) (times d z) (plan_times y d e x q.parts p) (even_times y e x even)
    (rw (mul_comm d e) (plan_times y e d z p.parts q))

-- so no load is larger than all loads of another plan
pub lowest_peak :
    (y : Day) (d e : ℕ) (x z : ℕ → ℕ → ℕ) → Plan y d x → Even y x → Plan y e z → AsLow y d x e z
unfolding above
lowest_peak y d e x z p even q c bound s l =
    let none = sum_zero y.hours (λ t. load y (times d z) t - c) (λ t lt. omega (arith, bound t lt, load_times y d z t)) in
    omega (
      arith,
      load_times y e x s,
      sum_is_zero y.hours (λ t. load y (times e x) t - c) (omega (arith, none, most_even y d e x z p even q c)) s l,
    )

-- no plan costs less by a tariff whose prices never fall
pub cheapest :
    (p : ℕ → ℕ) (y : Day) (d e : ℕ) (x z : ℕ → ℕ → ℕ) → ((k : ℕ) → p k ≤ p (suc k)) → Plan y d x → Even y x → Plan y e z →
    AsCheap p y d x e z
unfolding above
cheapest p y d e x z rise px even pz =
    omega (
      arith,
      cost_times p y d e x px.parts pz.parts,
      rw (mul_comm e d) at (cost_times p y e d z pz.parts px.parts),
      cost_least y.hours (load y (times e x)) (load y (times d z)) (d * e) p (mul-pos px.parts pz.parts) rise
          (most_even y d e x z px even pz),
    )

-- in parts of the same size, a task has no fewer of them
rows_more :
    (y w : Day) (f : ℕ → ℕ) (d e : ℕ) (x z : ℕ → ℕ → ℕ) → Within y w f → Plan y d x → Plan w e z → (j : ℕ) → j < y.tasks →
    sum y.hours (times e x j) ≤ sum y.hours (times d z (f j))
rows_more y w f d e x z in_w p q j l =
    let ours = (plan_times y d e x q.parts p).all j l in
    let theirs = (plan_times w e d z p.parts q).all (f j) (in_w.there j l) in
    omega (
      arith,
      ours,
      rw (sym in_w.span, mul_comm e d) at theirs,
      mul-le-mul_right (d * e) (in_w.units j l),
    )

-- more work never lowers a load
pub more_work :
    (y w : Day) (f : ℕ → ℕ) (d e : ℕ) (x z : ℕ → ℕ → ℕ) → Within y w f → Plan y d x → Even y x → Plan w e z → Even w z →
    NoMore y d x w e z
unfolding load Even
more_work y w f d e x z in_w p even-x q even-z s l =
    let span = in_w.span in
    let there = in_w.there in
    let only_x = (plan_times y d e x q.parts p).only in
    let only_z = (plan_times w e d z p.parts q).only in
    let level_z = even_times w d z even-z in
    omega (
      arith,
      load_times y e x s,
      load_times w d z s,
      more_loads y.tasks w.tasks y.hours f y.may (times e x) (times d z) there in_w.apart
          (rows_more y w f d e x z in_w p q) only_x
          (λ j t lj lt off. only_z (f j) t (there j lj) (omega arith) (sym (in_w.allowed j t lj lt) ∙ off)) (even_times y e x even-x)
          (λ j t u lj lt lu done can.
          level_z (f j) t u (there j lj) (omega arith) (omega arith) done (sym (in_w.allowed j u lj lu) ∙ can))
          s l,
    )

-- a day has its own work
pub within_itself : (y : Day) → Within y y (λ j. j)
within_itself y =
    record {
      span = refl;
      there = λ j l. l;
      apart = λ i j l k e. omega arith;
      units = λ j l. omega arith;
      allowed = λ j s l k. refl;
    }

-- any two even plans have the same loads
pub same_loads :
    (y : Day) (d e : ℕ) (x z : ℕ → ℕ → ℕ) → Plan y d x → Even y x → Plan y e z → Even y z → Same y d x e z
same_loads y d e x z p even-x q even-z s l =
    omega (
      arith,
      more_work y y (λ j. j) d e x z (within_itself y) p even-x q even-z s l,
      more_work y y (λ j. j) e d z x (within_itself y) q even-z p even-x s l,
    )

-- units more, a task more, and a task gone
pub within_raised : (y : Day) (i u : ℕ) → Within y (raised y i u) (λ j. j)
within_raised y i u =
    record {
      span = refl;
      there = λ j l. l;
      apart = λ i j l k e. omega arith;
      units = λ j l. grind arith;
      allowed = λ j s l k. refl;
    }

pub within_longer : (y : Day) (u : ℕ) (p : ℕ → Bool) → Within y (longer y u p) (λ j. j)
within_longer y u p =
    record {
      span = refl;
      there = λ j l. omega arith;
      apart = λ i j l k e. omega arith;
      units = λ j l. let ne : eqb j y.tasks ≡ false = ne_eqb j y.tasks (λ e. omega arith) in rw ne (omega arith);
      allowed = λ j s l k. let ne : eqb j y.tasks ≡ false = ne_eqb j y.tasks (λ e. omega arith) in rw ne refl;
    }

pub within_shorter : (y : Day) (i : ℕ) → Within (shorter y i) y (skip i)
within_shorter y i =
    record {
      span = refl;
      there = λ j l. grind (arith, nat_tests);
      apart = λ a b l k e. grind (arith, nat_tests);
      units = λ j l. omega arith;
      allowed = λ j s l k. refl;
    }
