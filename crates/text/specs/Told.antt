-- Mistakes as values. Assumes nothing: these are definitions.
use Rattle.std.specs.Prelude.{◌≡◌, ℕ, List, ◌++◌, map, vec_items, Vec}
use Rattle.std.specs.declared.alloc.Global.{Global}
use Rattle.text.specs.declared.mistake.Fault.{Fault}
use Rattle.text.specs.declared.mistake.Mistake.{Mistake}
use Rattle.text.specs.declared.report.Report.{Report}

-- the line, what is wrong there, and the word that it is about
abbrev pub Told : Type 0
Told = ℕ × Fault × List ℕ

abbrev pub tell : Mistake → Told
tell m = (m.line, m.fault, vec_items m.found)

abbrev pub told : Vec Mistake Global → List Told
told v = map tell (vec_items v)

-- the mistakes ts more, in the same line
pub record Blamed (a b : Report) (ts : List Told) : Type 0 where
  pub line : b.line ≡ a.line
  pub told : told b.mistakes ≡ told a.mistakes ++ ts
