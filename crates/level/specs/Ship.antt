-- What a flow of a part at its level gives. Assumes nothing: these are definitions.
use Rattle.std.specs.Prelude.{ℕ, Bool, List, length}
use Rattle.fraction.specs.declared.exact.Fraction.{Fraction}
use Rattle.night.specs.declared.task.Task.{Task}
use Rattle.sets.specs.Hours.{has}
use Rattle.night.specs.Task.{units, may}
use Rattle.flow.specs.declared.net.Net.{Net}
use Rattle.flow.specs.declared.net.Filled.{Filled}
use Rattle.flow.specs.declared.net.Filled.TheVariants.{Whole, Cut}
use Rattle.flow.specs.Lent.{flow}
use Rattle.level.specs.Cut.{Splits, Fits}
use Rattle.level.specs.Gathered.{scattered}

-- the part (t, h) fits under its level, or u cuts it
abbrev pub Shipped : List Task → (t h : ℕ → Bool) → Fraction → Net → List ℕ → Filled → Type 0
Shipped ts t h level net work Whole =
    Fits (length ts) 96 (may ts) (units ts) t h level.num level.den (scattered t (flow net work))
Shipped ts t h level net work (Cut u) =
    Splits (length ts) 96 (may ts) (units ts) t h level.num level.den (scattered t (flow net work)) (has u)
