use Rattle.std.proofs.Common.{sym, arith}
use Rattle.flow.proofs.Betters.{shifts_improves}
use Rattle.flow.proofs.Paths.{mark_flow}
use Rattle.flow.proofs.filling.Filling.slide.Goals as goal

pub shift-requires-clause-flows : goal.shift-requires-clause-flows
shift-requires-clause-flows c =
    omega
    (arith, c.min.ensures, c.min-d.ensures, mark_flow c.args.self.now.net.now c.args.self.now.work.now c.args.j c.args.t (sym c.if-not-contains.ensures))

pub returns-then-d-gt0 : goal.returns-then-d-gt0
returns-then-d-gt0 c = shifts_improves c.requires.task c.requires.start c.requires.end c.shift.ensures
