use Rattle.std.proofs.Common.{◌||◌, sym, ap, ◌∙◌}
use Rattle.night.specs.Task.{may}
use Rattle.level.proofs.Anys.{any_zero, any_next}
use Rattle.level.proofs.start.used.Goals as goal

pub tasks-init : goal.tasks-init
tasks-init c s = c.none-all.ensures s ∙ sym (any_zero (λ i. may c.args.tasks.now i s))

pub tasks-preserved : goal.tasks-preserved
tasks-preserved c s =
    c.union-all.ensures s
    ∙ (ap (λ v. v || may c.args.tasks.now c.tasks.task-index s) (c.tasks.invariant s)
    ∙ sym (any_next c.tasks.task-index (λ i. may c.args.tasks.now i s)))
