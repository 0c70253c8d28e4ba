use Rattle.flow.proofs.Paths.{cell_fits}
use Rattle.flow.proofs.Steps.{grew_sound, grew_shut}
use Rattle.flow.proofs.filling.Filling.ship.Goals as goal

pub put-requires-clause-fits : goal.put-requires-clause-fits
put-requires-clause-fits c = cell_fits c.args.self.now.sound c.args.j c.args.s c.args.d c.requires.task c.requires.hour c.requires.roomy

pub invariant_of-self-clause-sound : goal.invariant_of-self-clause-sound
invariant_of-self-clause-sound c =
    let w = grew_sound c.requires.task c.requires.hour (c.put.ensures.marks _) c.args.self.now.sound c.put.ensures.grew c.requires.allowed in
    record { only = w.only; marks = w.marks; fits = w.fits }

pub invariant_of-self-clause-shut : goal.invariant_of-self-clause-shut
invariant_of-self-clause-shut c =
    let w = grew_shut c.requires.task c.requires.hour c.args.self.now.shut c.put.ensures.grew in record { none = w.none }
