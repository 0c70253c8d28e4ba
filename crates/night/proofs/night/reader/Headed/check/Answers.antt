use Rattle.night.proofs.Faults.{first_past}
use Rattle.night.proofs.night.reader.Headed.check.Goals as goal

pub returns-then-self-end : goal.returns-then-self-end
returns-then-self-end c =
    first_past c.args.self.now.bytes.now _ _ _ c.args.self.now.headed c.in_ok-check_tasks.ensures
    c.task_place-end.ensures c.if-self-end.true
