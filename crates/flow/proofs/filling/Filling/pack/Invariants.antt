use Rattle.std.proofs.Common.{◌≡◌, ℕ, true}
use Rattle.sets.specs.Hours.{has}
use Rattle.flow.specs.Filling.{Improves}
use Rattle.flow.proofs.filling.Filling.pack.Given as goal

abbrev pub invariant-loop-j : goal.invariant-loop-j
invariant-loop-j l = Improves l.initial.self l.self × ((s : ℕ) → has l.open s ≡ true → has l.initial.open s ≡ true)
