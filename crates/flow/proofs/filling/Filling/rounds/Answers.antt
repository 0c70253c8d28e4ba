use Rattle.flow.proofs.Ends.{ended}
use Rattle.flow.proofs.filling.Filling.rounds.Goals as goal

pub returns-in_default-clause-settled : goal.returns-in_default-clause-settled
returns-in_default-clause-settled c =
    let seen = c.look-depth.ensures in
    let stuck = rw c.in_default.is at seen.2 in
    let some = c.if-not-waits.ensures in
    rw c.loop-layers.invariant.1.same.may at (ended seen.1 stuck c.loop-layers.self.sound some.0 some.1 some.2)
