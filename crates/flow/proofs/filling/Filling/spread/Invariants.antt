use Rattle.flow.specs.Lent.{Spread}
use Rattle.flow.proofs.filling.Filling.spread.Given as goal

abbrev pub invariant-loop-j : goal.invariant-loop-j
invariant-loop-j l = Spread l.j l.self.may.now l.net l.from l.next
