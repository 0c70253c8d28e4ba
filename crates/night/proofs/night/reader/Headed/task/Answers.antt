use Rattle.std.proofs.Common.{arith}
use Rattle.night.proofs.Places.{task_there, task_read, small_part}
use Rattle.night.proofs.night.reader.Headed.task.Goals as goal

pub overflow_cast-units : goal.overflow_cast-units
overflow_cast-units c =
    let there = task_there _ _ _ c.args.j c.args.self.now.headed c.requires in
    let small = small_part c.args.self.now.bytes.now c.task_place-at.result _ (omega arith) c.read_little-units.ensures.small in
    omega arith

pub returns : goal.returns
returns c =
    task_read c.args.self.now.bytes.now _ _ c.args.j c.task_place-at.result c.task_place-end.result
    c.read_little-units.result c.read_little-bits.result c.from_bits.result
    c.args.self.now.headed c.requires c.task_place-at.ensures c.task_place-end.ensures c.read_little-units.ensures.value
    c.read_little-bits.ensures.value c.from_bits.ensures
