use Rattle.std.proofs.Common.{◌≡◌, ℕ, ◌<◌, true, false}
use Rattle.sets.specs.Hours.{has}
use Rattle.sheet.specs.Layout.{lower}
use Rattle.sheet.proofs.layout.Laid.first_lower.Given as goal

abbrev pub invariant-loop-t : goal.invariant-loop-t
invariant-loop-t l = (t : ℕ) → t < l.t → has l.set t ≡ true → lower l.self.bytes.now t l.s ≡ false
