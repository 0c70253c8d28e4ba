-- The groups found so far and the parts that wait, told by one label for each task and hour, in the order of levels.
-- Assumes nothing: these are definitions.
use Rattle.std.specs.Prelude.{◌≡◌, ℕ, suc, ◌*◌, ◌<◌, ◌≤◌, Bool, true, false, ◌==◌}
use Rattle.fraction.specs.Sum.{sum, part}
use Rattle.level.specs.Bounds.{Upper, Lower}

-- the tasks, or hours, with the label i
abbrev pub is : (ℕ → ℕ) → ℕ → ℕ → Bool
is label i k = label k == i

-- e groups are found, with labels from 0 and levels num / den; the parts with labels from t to z wait, t on top; an hour that no task may use
-- has a label from z on. The bound of a part, up / over, lies above all that the part and those after it can give, and below all before it
pub record Stack
    (m n : ℕ) (may : ℕ → ℕ → Bool) (units of at num den : ℕ → ℕ) (e t z : ℕ) : Type 0 where
  pub up : ℕ → ℕ
  pub over : ℕ → ℕ
  pub found : e ≤ t
  pub ends : t ≤ z
  pub tasks : (j : ℕ) → j < m → e ≤ of j → t ≤ of j
  pub last : (j : ℕ) → j < m → of j < z
  pub hours : (s : ℕ) → s < n → e ≤ at s → t ≤ at s
  -- a task may use only hours of its own part and of denser ones
  pub before : (j s : ℕ) → j < m → s < n → may j s ≡ true → at s ≤ of j
  pub some : (i : ℕ) → i < z → (e ≤ i → t ≤ i) → (s : ℕ) × (s < n) × (at s ≡ i)
  pub mine : (j : ℕ) → j < m → (s : ℕ) × (s < n) × (may j s ≡ true) × (at s ≡ of j)
  pub used : (s : ℕ) → s < n → at s < z → (j : ℕ) × (j < m) × (may j s ≡ true) × (of j ≡ at s)
  pub upper : (i : ℕ) → t ≤ i → i < z → Upper m n may units (is of i) (is at i) (up i) (over i)
  pub lower : (i : ℕ) → t ≤ i → i < z → Lower m n may units (is of i) (is at i) (up (suc i)) (over (suc i))
  pub past : (g : ℕ) → g < e → up t * den g ≤ num g * over t
  pub some_den : (g : ℕ) → g < e → 0 < den g
  pub fall : (g h : ℕ) → g < h → h < e → num h * den g < num g * den h

-- the amounts a of tasks in the e groups found make a plan of these groups, each hour at its group's level
pub record Amounts
    (m n : ℕ) (may : ℕ → ℕ → Bool) (units of at num den : ℕ → ℕ) (e : ℕ) (a : ℕ → ℕ → ℕ) : Type 0 where
  pub all : (j : ℕ) → j < m → of j < e → sum n (a j) ≡ units j * den (of j)
  pub only : (j s : ℕ) → j < m → s < n → of j < e → may j s ≡ false → a j s ≡ 0
  pub own : (j s : ℕ) → j < m → s < n → of j < e → 0 < a j s → at s ≡ of j
  pub full : (s : ℕ) → s < n → at s < e → part m (is of (at s)) (λ j. a j s) ≡ num (at s)
