-- What a plan of a night promises. Assumes nothing: these are definitions.
use Rattle.std.specs.Prelude.{◌≡◌, ℕ, suc, ◌+◌, ◌*◌, ◌<◌, ◌≤◌, true, cond, ◌&&◌, List, length, ◌==◌, nat_lt, slice_index_or}
use Rattle.fraction.specs.Fraction.{Coprime}
use Rattle.night.specs.declared.night.Night.{Night}
use Rattle.sets.specs.Hours.{has, blank}
use Rattle.night.specs.Night.{hours_of, tasks_of}
use Rattle.night.specs.Task.{may}
use Rattle.even.specs.Day.{Plan, Even, load}
use Rattle.even.specs.DayOf.{day_of}
use Rattle.even.specs.Evenest.{AsEven, AsLow}
use Rattle.even.specs.Tariff.{AsCheap}
use Rattle.even.specs.Grouped.{Grouped, Densest, spread}
use Rattle.even.specs.Whole.{whole}
use Rattle.level.specs.declared.levels.Levels.{Levels}
use Rattle.level.specs.declared.short.Short.{Short}
use Rattle.level.specs.declared.short.Short.TheVariants.{Plan as NoPlan, Work as NoWork}
use Rattle.level.specs.Load.{group_at, level_at, Same}
use Rattle.level.specs.Parts.{nought, num, den, label, amount}
use Rattle.level.specs.Walk.{Behind}

-- how long the lent slices must be: a row of 96 for each task
abbrev pub needed : Night → ℕ
needed night = length (tasks_of night) * 96

-- the group of hour s; the number of groups, if it is of none
abbrev pub hour_group : Levels → ℕ → ℕ
hour_group r s = group_at r.count r.groups s

-- the amounts of the plan, in parts of one whole
abbrev pub shares : Levels → List ℕ → ℕ → ℕ → ℕ
shares r plan = spread (den r.levels) (label r.of) (amount plan)

-- the plan of a night: amounts, groups and loads; plan and work before the call, plan' and work' after it
pub record Solved (night : Night) (r : Levels) (plan plan' work work' : List ℕ) : Type 0 where
  -- both slices were long enough
  pub room : (needed night ≤ length plan) × (needed night ≤ length work)
  -- the amounts are a plan of the night, and it is even
  pub a_plan : Plan (day_of night) whole (shares r plan')
  pub even : Even (day_of night) (shares r plan')
  -- so above every level lies at most as much of it as of any other plan, no plan has a smaller largest load, and none costs less, by prices of
  -- an hour's first, second, .. unit that never fall
  pub least : (e : ℕ) (z : ℕ → ℕ → ℕ) → Plan (day_of night) e z → AsEven (day_of night) whole (shares r plan') e z
  pub lowest : (e : ℕ) (z : ℕ → ℕ → ℕ) → Plan (day_of night) e z → AsLow (day_of night) whole (shares r plan') e z
  pub cheapest :
      (p : ℕ → ℕ) → ((k : ℕ) → p k ≤ p (suc k)) → (e : ℕ) (z : ℕ → ℕ → ℕ) → Plan (day_of night) e z →
      AsCheap p (day_of night) whole (shares r plan') e z
  -- the loads are those of the plan, exactly; past the hours of the night they are 0
  pub loads : (s : ℕ) → s < hours_of night → load (day_of night) (shares r plan') s * den r.loads s ≡ num r.loads s * whole
  pub idle : (s : ℕ) → hours_of night ≤ s → s < 96 → (num r.loads s ≡ 0) × (den r.loads s ≡ 1)
  pub long : length r.loads ≡ 96
  -- the load of an hour of a group is written as the group's level is, and that of any other hour as 0
  pub written : (s : ℕ) → s < hours_of night → Same (slice_index_or r.loads s nought) (level_at r.count r.groups r.levels s)
  -- levels fall strictly from group to group; each task is of a group, is done in hours of it only, and all hours of it have its level
  pub groups : Grouped (day_of night) r.count (num r.levels) (den r.levels) (label r.of) (hour_group r) (amount plan')
  -- each group is the densest of what is left when it is found, of equals the one with the most hours
  pub densest :
      (g : ℕ) → g < r.count → Densest (day_of night) (num r.levels) (den r.levels) (label r.of) (hour_group r) g
  -- each group has an hour, and its hours are those of it, in each of which a task of the group may be done; each task may use an hour of its group
  pub some : (g : ℕ) → g < r.count → (s : ℕ) × (s < hours_of night) × (hour_group r s ≡ g)
  pub sets :
      (g s : ℕ) → g < r.count → has (slice_index_or r.groups g blank) s ≡ (nat_lt s (hours_of night) && hour_group r s == g)
  pub used :
      (s : ℕ) → s < hours_of night → hour_group r s < r.count →
      (j : ℕ) × (j < length (tasks_of night)) × (may (tasks_of night) j s ≡ true) × (label r.of j ≡ hour_group r s)
  pub mine :
      (j : ℕ) → j < length (tasks_of night) →
      (s : ℕ) × (s < hours_of night) × (may (tasks_of night) j s ≡ true) × (hour_group r s ≡ label r.of j)
  -- levels are in lowest terms, over at most 96
  pub small : (g : ℕ) → g < r.count → den r.levels g ≤ 96
  pub terms : (g : ℕ) → g < r.count → Coprime (num r.levels g) (den r.levels g)
  -- two flows for each group, less one; the most for a group are at most the hours, and as many for each would be as many as in all
  pub flows : r.flows + cond (nat_lt 0 (length (tasks_of night))) 1 0 ≡ 2 * r.count
  pub longest : (r.flows ≤ r.count * r.longest) × (r.longest ≤ hours_of night)
  -- in a row of the plan, cells from the night's hours on are 0
  pub beyond : (j s : ℕ) → j < length (tasks_of night) → hours_of night ≤ s → s < 96 → amount plan' j s ≡ 0
  -- what lies behind the rows of the night is as it was
  pub plan_rest : Behind (length (tasks_of night)) plan plan'
  pub work_rest : Behind (length (tasks_of night)) work work'

-- which slice is too short: the plan before the work
abbrev pub Why : Night → List ℕ → List ℕ → Short → Type 0
Why night plan work NoPlan = length plan < needed night
Why night plan work NoWork = (needed night ≤ length plan) × (length work < needed night)

-- a slice is too short, and nothing is changed
pub record Refused (night : Night) (e : Short) (plan plan' work work' : List ℕ) : Type 0 where
  pub why : Why night plan work e
  pub plan_same : plan' ≡ plan
  pub work_same : work' ≡ work
