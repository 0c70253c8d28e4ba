use Rattle.std.proofs.Common.{◌≡◌, ◌∷◌, length, take, vec_items}
use Rattle.std.specs.List.{flat_map}
use Rattle.night.specs.Format.{task_bytes}
use Rattle.night.proofs.night.writer.write.Given as goal

abbrev pub invariant-loop-task : goal.invariant-loop-task
invariant-loop-task l =
    vec_items l.out ≡ l.night.hours ∷ length l.tasks ∷ flat_map (task_bytes l.row) (take l.task-index l.tasks)
