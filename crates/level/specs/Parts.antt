-- Groups, parts and amounts as the code holds them. Assumes nothing: these are definitions.
use Rattle.std.specs.Prelude.{◌≡◌, ℕ, ◌+◌, ◌*◌, ◌<◌, ◌≤◌, Bool, true, List, length, get_or, slice_index, slice_index_or}
use Rattle.std.proofs.Common.{lit<}
use Rattle.fraction.specs.declared.exact.Fraction.{Fraction}
use Rattle.fraction.specs.Sum.{any, size}
use Rattle.fraction.proofs.Fractions.{coprime_one}
use Rattle.sets.specs.declared.hours.Hours.{Hours}
use Rattle.night.specs.declared.task.Task.{Task}
use Rattle.sets.specs.Hours.{has, blank}
use Rattle.night.specs.Task.{units, may}
use Rattle.level.specs.declared.parts.Parts.{Parts}
use Rattle.level.specs.Stack.{is, Stack, Amounts}

-- the fraction 0 / 1, which stands where a list of fractions has ended
abbrev pub nought : Fraction
nought = record { num = 0; den = 1; small = lit< tt; some = lit< tt; short = lit< tt; lowest = coprime_one 0 }

-- the level of group g, in a list of levels
abbrev pub num : List Fraction → ℕ → ℕ
num levels g = (get_or levels g nought).num

abbrev pub den : List Fraction → ℕ → ℕ
den levels g = (get_or levels g nought).den

-- the label of task j, in a list of labels
abbrev pub label : List ℕ → ℕ → ℕ
label of j = slice_index of j

-- how much of task j is done in hour s, in a plan with rows of 96
abbrev pub amount : List ℕ → ℕ → ℕ → ℕ
amount plan j s = slice_index plan (j * 96 + s)

-- at most 200 tasks with at most a million units each, that each may use some of 96 hours
pub record Ready (ts : List Task) : Type 0 where
  pub few : length ts ≤ 200
  pub light : (j : ℕ) → j < length ts → units ts j ≤ 1000000
  pub some : (j : ℕ) → j < length ts → any 96 (may ts j) ≡ true
  pub low : (j s : ℕ) → j < length ts → may ts j s ≡ true → s < 96

-- groups and parts: `found` groups have their levels, and their amounts in the plan, and the parts from the label `top` on are stacked;
-- hours: those of each label; of: the labels of tasks; at: those of hours
pub record State
    (ts : List Task) (found top : ℕ) (hours : List Hours) (levels : List Fraction) (of plan : List ℕ) : Type 0 where
  pub at : ℕ → ℕ
  pub stack : Stack (length ts) 96 (may ts) (units ts) (label of) at (num levels) (den levels) found top 96
  pub amounts : Amounts (length ts) 96 (may ts) (units ts) (label of) at (num levels) (den levels) found (amount plan)
  pub sets : (i : ℕ) → i < 96 → (found ≤ i → top ≤ i) → (s : ℕ) → has (slice_index_or hours i blank) s ≡ is at i s
  pub far : (s : ℕ) → 96 ≤ s → 96 ≤ at s
  pub small : (g : ℕ) → g < found → den levels g ≤ 96
  pub labels : length of ≡ 200
  pub groups : length levels ≡ 96
  pub rows : length hours ≡ 96

-- what the parts hold, with the plan
abbrev pub Held : List Task → Parts → List ℕ → Type 0
Held ts p plan = State ts p.found p.top p.hours p.levels p.of plan

-- the part on top: its tasks and its hours
abbrev pub top_tasks : Parts → ℕ → Bool
top_tasks p = is (label p.of) p.top

abbrev pub top_hours : Parts → ℕ → Bool
top_hours p = has (slice_index_or p.hours p.top blank)

-- a part waits, and has at least one hour, all below 96
pub record Top (p : Parts) : Type 0 where
  pub waits : p.top < 96
  pub labels : length p.of ≡ 200
  pub rows : length p.hours ≡ 96
  pub low : (s : ℕ) → top_hours p s ≡ true → s < 96
  pub some : 0 < size 96 (top_hours p)
