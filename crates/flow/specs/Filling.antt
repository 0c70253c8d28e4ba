-- What the steps of a fill change and keep. Assumes nothing: these are definitions.
use Rattle.std.specs.Prelude.{◌≡◌, ℕ, List, length}
use Rattle.sets.specs.declared.hours.Hours.{Hours}
use Rattle.fraction.specs.Sum.{sum}
use Rattle.flow.specs.declared.filling.Filling.{Filling}
use Rattle.flow.specs.Lent.{permits, left, Shipped, Shifted, Steady, Better, Layered}

-- what is left of all tasks
abbrev pub waiting : Filling → ℕ
waiting f = sum (length f.may.now) (left f.net.now)

-- layers up to k for the flow
abbrev pub LayeredIn : Filling → List Hours → ℕ → Type 0
LayeredIn f layers k = Layered (length f.may.now) f.may.now f.net.now layers k

-- the same tasks and hours, in the same lent memory
pub record Same (old new : Filling) : Type 0 where
  pub may : new.may ≡ old.may
  pub hours : new.hours ≡ old.hours
  pub net : new.net.ghost_name ≡ old.net.ghost_name
  pub work : new.work.ghost_name ≡ old.work.ghost_name

-- d of task j is shipped into hour s
pub record Ships (old new : Filling) (j s d : ℕ) : Type 0 where
  pub same : Same old new
  pub shipped : Shipped old.net.now old.work.now new.net.now new.work.now j s d

-- d of task j goes from hour t to hour u
pub record Shifts (old new : Filling) (j t u d : ℕ) : Type 0 where
  pub same : Same old new
  pub shifted : Shifted old.net.now old.work.now new.net.now new.work.now j t u d

-- what a task has shipped and left, and what an hour bears and has room for, are the same
pub record Keeps (old new : Filling) : Type 0 where
  pub same : Same old new
  pub steady : Steady (length old.may.now) old.net.now old.work.now new.net.now new.work.now

-- and no more is left
pub record Improves (old new : Filling) : Type 0 where
  pub same : Same old new
  pub better : Better (length old.may.now) (permits old.may.now) old.net.now old.work.now new.net.now new.work.now
