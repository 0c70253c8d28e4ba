-- The text of a whole plan. Assumes nothing: these are definitions.
use Rattle.std.specs.Prelude.{◌≡◌, ℕ, ◌+◌, ◌*◌, ◌/◌, Bool, true, false, cond, ◌&&◌, ◌||◌, List, [], ◌++◌, length, Result, MatchResult, ◌==◌, nat_le, slice_index, slice_index_or}
use Rattle.fraction.specs.declared.exact.Fraction.{Fraction}
use Rattle.fraction.specs.Limits.{max_hours}
use Rattle.fraction.specs.Fraction.{fits, gcd_of}
use Rattle.lines.specs.declared.text.Unprinted.{Unprinted}
use Rattle.lines.specs.declared.text.Unprinted.TheVariants.{NoMemory, NoPlan}
use Rattle.lines.specs.Lines.{hour_line, task_line, ended, concat, each}

-- the amount of task j in hour s: each task has a row of max-hours places
abbrev pub cell : List ℕ → ℕ → ℕ → ℕ
cell amounts j s = slice_index amounts (j * max_hours + s)

-- the lines of the hours, where num s / den s is the load of hour s
abbrev pub hours_text : ℕ → (ℕ → ℕ) → (ℕ → ℕ) → List ℕ
hours_text hours num den = concat hours (λ s. ended (hour_line s (num s) (den s)))

-- the line of an amount in lowest terms; none where it is 0
abbrev pub amount_text : ℕ → ℕ → ℕ → ℕ → List ℕ
amount_text task hour amount parts =
    cond (amount == 0) []
    (ended (task_line task hour (amount / gcd_of amount parts) (parts / gcd_of amount parts)))

-- the lines of a task, of which amount s / parts is done in hour s
abbrev pub task_text : ℕ → ℕ → ℕ → (ℕ → ℕ) → List ℕ
task_text hours task parts amount = concat hours (λ s. amount_text task s (amount s) parts)

-- an amount that can be printed: 0, or a fraction
abbrev pub printable : ℕ → ℕ → Bool
printable parts amount = amount == 0 || fits amount parts

-- all amounts of a task can be printed
abbrev pub row_printable : ℕ → ℕ → (ℕ → ℕ) → Bool
row_printable hours parts amount = each hours (λ s. printable parts (amount s))

-- the lines of all tasks, and whether they can be printed; task j has its own number of parts and its row of amounts
abbrev pub tasks_text : ℕ → List ℕ → List ℕ → List ℕ
tasks_text hours parts amounts = concat (length parts) (λ j. task_text hours j (slice_index parts j) (cell amounts j))

abbrev pub tasks_printable : ℕ → List ℕ → List ℕ → Bool
tasks_printable hours parts amounts = each (length parts) (λ j. row_printable hours (slice_index parts j) (cell amounts j))

-- the whole text: hours first (d is what stands past the end of loads, so it doesn't matter)
abbrev pub plan_text : Fraction → List Fraction → List ℕ → List ℕ → List ℕ
plan_text d loads parts amounts =
    hours_text (length loads) (λ s. (slice_index_or loads s d).num) (λ s. (slice_index_or loads s d).den)
    ++ tasks_text (length loads) parts amounts

-- a row has a place for each hour, amounts has a row for each task, and all can be printed
abbrev pub plan_printable : List Fraction → List ℕ → List ℕ → Bool
plan_printable loads parts amounts =
    nat_le (length loads) max_hours
    && (nat_le (length parts * max_hours) (length amounts) && tasks_printable (length loads) parts amounts)

-- why nothing is printed: no memory says nothing of the plan, no plan says P
abbrev pub Told : Unprinted → Type 0 → Type 0
Told NoMemory P = Unit {0}
Told NoPlan P = P

-- a result: P where all can be printed, else why not
abbrev pub Prints : {X : Type 0} → Result X Unprinted → Bool → (X → Type 0) → Type 0
Prints r good P = MatchResult r (λ x. (good ≡ true) × P x) (λ e. Told e (good ≡ false))
