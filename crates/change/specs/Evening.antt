-- What an evening promises: the changed night, its plan and its sheet. Assumes nothing: these are definitions.
use Rattle.std.specs.Prelude.{ℕ, List, vec_items}
use Rattle.night.specs.declared.night.Night.{Night}
use Rattle.sheet_writer.specs.Planned.{Sheeted}
use Rattle.change.specs.declared.kinds.Change.{Change}
use Rattle.change.specs.declared.evening.Evening.{Evening}
use Rattle.change.specs.Changed.{Changed}

-- the night is the one after the row of changes, and on it the plan is even and its sheet is accepted
-- (plan, work and sheet stand for what the memory held before, and work' for what is left in it)
pub record Prepared (night : Night) (cs : List Change) (v : Evening) : Type 0 where
  pub changed : Changed night cs v.night
  pub plan : List ℕ
  pub work : List ℕ
  pub work' : List ℕ
  pub sheet : List ℕ
  pub sheeted :
      Sheeted v.night v.planned.levels v.planned.length plan (vec_items v.amounts) work work' sheet (vec_items v.sheet)
