use Rattle.std.proofs.Common.{◌≡◌, ℕ, ◌<◌, ◌≤◌, true}
use Rattle.sets.specs.Hours.{has}
use Rattle.picture.proofs.rows.run_end.Given as goal

abbrev pub invariant-loop-k : goal.invariant-loop-k
invariant-loop-k l = (i : ℕ) → l.s ≤ i → i < l.k → has l.set i ≡ true
