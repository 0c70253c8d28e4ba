use Rattle.std.proofs.Common.{◌∙◌}
use Rattle.change.proofs.Applied.{changed_copy}
use Rattle.change.proofs.row.apply.Goals as goal

pub returns : goal.returns
returns c =
    changed_copy c.args.night.now c.args.row.now _ _ _ c.in_ok-draft.ensures.0 c.in_ok-draft.ensures.1 c.in_ok-make_all.ensures.tasks.0
    (c.finish.ensures.0 ∙ c.make_all.ensures.hours) (c.finish.ensures.1 ∙ c.in_ok-make_all.ensures.tasks.1)
