-- Which sheets are accepted, and what is wrong with the others. Assumes nothing: these are definitions.
use Rattle.std.specs.Prelude.{◌≡◌, ℕ, suc, ◌*◌, ◌<◌, ◌≤◌, min, true, ◌⊎◌, List, length}
use Rattle.fraction.specs.Sum.{sum}
use Rattle.even.specs.Day.{Day, Plan, Even, load}
use Rattle.even.specs.Evenest.{AsEven, AsLow}
use Rattle.even.specs.Tariff.{AsCheap}
use Rattle.even.specs.Whole.{whole}
use Rattle.sheet.specs.Sheet.{num, den, groups, group, first_of, start, plan}
use Rattle.sheet.specs.declared.refusal.Refusal.{Refusal}
use Rattle.sheet.specs.declared.refusal.Refusal.TheVariants.{Length, Load, Task, Uneven}

-- the bytes are as many as the day's hours and tasks and the number of groups ask for
abbrev pub Sized : Day → List ℕ → Type 0
Sized y b = length b ≡ start y b y.tasks

-- the load of hour s is that of the amounts
pub record Loaded (y : Day) (b : List ℕ) (s : ℕ) : Type 0 where
  pub over : 0 < den b s
  pub load : load y (plan y b) s * den b s ≡ num b s * whole

-- task j is of a group that is there and has an hour, and its amounts add up to its units
pub record Adds (y : Day) (b : List ℕ) (j : ℕ) : Type 0 where
  pub there : group y b j < groups y b
  pub some : first_of y b (group y b j) < y.hours
  pub all : sum y.hours (plan y b j) ≡ y.work j * whole

-- task j isn't done in hour s, or may not be done in hour t, or hour t has at least the load of hour s
abbrev pub Level : Day → List ℕ → ℕ → ℕ → ℕ → Type 0
Level y b j s t = 0 < plan y b j s → y.may j t ≡ true → load y (plan y b) s ≤ load y (plan y b) t

-- a sheet that is accepted: its amounts make a plan of the day with its loads, and the plan is even
pub record Accepted (y : Day) (b : List ℕ) : Type 0 where
  pub sized : Sized y b
  pub loads : (s : ℕ) → s < y.hours → Loaded y b s
  pub there : (j : ℕ) → j < y.tasks → group y b j < groups y b
  pub some : (j : ℕ) → j < y.tasks → first_of y b (group y b j) < y.hours
  pub is_plan : Plan y whole (plan y b)
  pub is_even : Even y (plan y b)

-- no plan z of the day, in parts of 1 / e, is more even than the sheet's, has a smaller largest load, or costs less by a tariff whose prices
-- never fall from an hour's first unit on
pub record Unbeaten (y : Day) (b : List ℕ) : Type 0 where
  pub evenest : (e : ℕ) (z : ℕ → ℕ → ℕ) → Plan y e z → AsEven y whole (plan y b) e z
  pub lowest : (e : ℕ) (z : ℕ → ℕ → ℕ) → Plan y e z → AsLow y whole (plan y b) e z
  pub cheapest :
      (p : ℕ → ℕ) (e : ℕ) (z : ℕ → ℕ → ℕ) → ((k : ℕ) → p k ≤ p (suc k)) → Plan y e z → AsCheap p y whole (plan y b) e z

-- 1: the bytes end too early, at their length, or go on, at the first too many
pub record WrongLength (y : Day) (b : List ℕ) (p : ℕ) : Type 0 where
  pub wrong : Sized y b → ⊥
  pub place : p ≡ min (length b) (start y b y.tasks)

-- 7: a load that isn't the amounts', the first of them at hour s
pub record WrongLoad (y : Day) (b : List ℕ) (s : ℕ) : Type 0 where
  pub sized : Sized y b
  pub hour : s < y.hours
  pub before : (i : ℕ) → i < s → Loaded y b i
  pub wrong : Loaded y b s → ⊥

-- 8: amounts that don't add up, or a group that is missing or has no hour; the first at task j
pub record WrongTask (y : Day) (b : List ℕ) (j : ℕ) : Type 0 where
  pub sized : Sized y b
  pub loads : (s : ℕ) → s < y.hours → Loaded y b s
  pub task : j < y.tasks
  pub before : (i : ℕ) → i < j → Adds y b i
  pub wrong : Adds y b j → ⊥

-- 9: not even; task j is done in hour s, though less lies in hour t, in which it may be done: the first such task, of its such hours s the
-- first, and of the hours t with less than s the first
pub record NotEven (y : Day) (b : List ℕ) (j s t : ℕ) : Type 0 where
  pub sized : Sized y b
  pub loads : (i : ℕ) → i < y.hours → Loaded y b i
  pub adds : (i : ℕ) → i < y.tasks → Adds y b i
  pub task : j < y.tasks
  pub hour : s < y.hours
  pub other : t < y.hours
  pub tasks_before : (i u v : ℕ) → i < j → u < y.hours → v < y.hours → Level y b i u v
  pub hours_before : (u v : ℕ) → u < s → v < y.hours → Level y b j u v
  pub others_before : (v : ℕ) → v < t → Level y b j s v
  pub done : 0 < plan y b j s
  pub may : y.may j t ≡ true
  pub less : load y (plan y b) t < load y (plan y b) s

-- the number of a refusal, its place, and, for 9, the two hours
abbrev pub code : Refusal → ℕ × ℕ × ℕ × ℕ
code (Length p) = (1, p, 0, 0)
code (Load s) = (7, s, 0, 0)
code (Task j) = (8, j, 0, 0)
code (Uneven j s t) = (9, j, s, t)

-- a sheet is refused with a number at a place: the first thing that is wrong with it
abbrev pub Refused : Day → List ℕ → ℕ × ℕ × ℕ × ℕ → Type 0
Refused y b c =
    ((c.0 ≡ 1) × WrongLength y b c.1) ⊎ ((c.0 ≡ 7) × WrongLoad y b c.1) ⊎ ((c.0 ≡ 8) × WrongTask y b c.1)
    ⊎ ((c.0 ≡ 9) × NotEven y b c.1 c.2 c.3)
