use Rattle.flow.specs.Path.{NoStep}
use Rattle.flow.proofs.filling.Filling.pass.Given as goal

abbrev pub invariant-loop-j : goal.invariant-loop-j
invariant-loop-j l = NoStep l.j l.self.may.now l.net l.near l.t
