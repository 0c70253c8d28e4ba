use Rattle.std.proofs.Common.{◌≡◌, ℕ, true}
use Rattle.sets.specs.Hours.{has}
use Rattle.flow.proofs.pack.least.Given as goal

abbrev pub invariant-loop-plane : goal.invariant-loop-plane
invariant-loop-plane l = (s : ℕ) → has l.rest s ≡ true → has l.initial.rest s ≡ true
