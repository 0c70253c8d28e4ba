use Rattle.sets.specs.Hours.{has}
use Rattle.sheet.proofs.Least.{Best}
use Rattle.sheet.proofs.layout.Laid.least.Given as goal

abbrev pub invariant-loop-t : goal.invariant-loop-t
invariant-loop-t l = Best l.self.bytes.now (has l.fn.set) (has l.t-iterator.rest) l.best
