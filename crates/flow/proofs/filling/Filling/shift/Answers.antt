use Rattle.std.proofs.Common.{sym, arith}
use Rattle.flow.proofs.Paths.{room_fits, cell_fits}
use Rattle.flow.proofs.Steps.{grew_sound, grew_shut, fell_sound, fell_shut}
use Rattle.flow.proofs.filling.Filling.shift.Goals as goal

pub take-requires-clause-fits : goal.take-requires-clause-fits
take-requires-clause-fits c = room_fits c.args.self.now.sound c.args.j c.args.t c.args.d c.requires.task c.requires.start c.requires.flows

pub put-requires-clause-fits : goal.put-requires-clause-fits
put-requires-clause-fits c =
    let w = fell_sound c.requires.task c.requires.start (c.take.ensures.marks _) c.args.self.now.sound c.take.ensures.fell in
    cell_fits w c.args.j c.args.u c.args.d c.requires.task c.requires.end
    (omega (arith, c.requires.roomy, c.take.ensures.fell.rooms c.args.u (λ e. c.requires.apart (sym e))))

pub invariant_of-self-clause-sound : goal.invariant_of-self-clause-sound
invariant_of-self-clause-sound c =
    let w = fell_sound c.requires.task c.requires.start (c.take.ensures.marks _) c.args.self.now.sound c.take.ensures.fell in
    grew_sound c.requires.task c.requires.end (c.put.ensures.marks _) w c.put.ensures.grew c.requires.allowed

pub invariant_of-self-clause-shut : goal.invariant_of-self-clause-shut
invariant_of-self-clause-shut c =
    grew_shut c.requires.task c.requires.end (fell_shut c.requires.task c.requires.start c.args.self.now.shut c.take.ensures.fell)
    c.put.ensures.grew
