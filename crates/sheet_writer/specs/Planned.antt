-- What the way from a night to the sheet of its plan promises. Assumes nothing: these are definitions.
use Rattle.std.specs.Prelude.{◌≡◌, ℕ, ◌<◌, ◌≤◌, List, length, take}
use Rattle.night.specs.declared.night.Night.{Night}
use Rattle.night.specs.Night.{hours_of, tasks_of}
use Rattle.even.specs.DayOf.{day_of}
use Rattle.level.specs.declared.levels.Levels.{Levels}
use Rattle.level.specs.Levels.{needed, Solved}
use Rattle.sheet.specs.Verdict.{Accepted}
use Rattle.sheet_writer.specs.Written.{Wrote, span}
use Rattle.sheet_writer.specs.declared.refusal.Short.{Short}
use Rattle.sheet_writer.specs.declared.refusal.Short.TheVariants.{Plan, Work, Sheet}

-- how long the lent sheet must be: enough for a group in each hour
abbrev pub room : Night → ℕ
room night = span (day_of night) (hours_of night)

-- the plan of the night, and the sheet of it, w bytes long: it says the plan, and is accepted
pub record Sheeted (night : Night) (r : Levels) (w : ℕ) (plan plan' work work' sheet sheet' : List ℕ) : Type 0 where
  pub solved : Solved night r plan plan' work work'
  pub wrote : Wrote (hours_of night) (tasks_of night) r.loads r.groups r.count r.of plan' sheet sheet' w
  pub accepted : Accepted (day_of night) (take w sheet')

-- the number and the place of a refusal
abbrev pub short_code : Short → ℕ × ℕ
short_code Plan = (5, 0)
short_code Work = (5, 1)
short_code Sheet = (5, 2)

-- which slice is too short: the plan, then the work, then the sheet
abbrev pub WhyShort : Night → (plan work sheet : ℕ) → Short → Type 0
WhyShort night plan work sheet Plan = plan < needed night
WhyShort night plan work sheet Work = (needed night ≤ plan) × (work < needed night)
WhyShort night plan work sheet Sheet = (needed night ≤ plan) × (needed night ≤ work) × (sheet < room night)

-- a slice is too short, and nothing is changed
pub record Unsheeted (night : Night) (e : Short) (plan plan' work work' sheet sheet' : List ℕ) : Type 0 where
  pub why : WhyShort night (length plan) (length work) (length sheet) e
  pub plan_same : plan' ≡ plan
  pub work_same : work' ≡ work
  pub sheet_same : sheet' ≡ sheet
