use Rattle.std.proofs.Common.{◌≡◌, length, vec_items, refl, rules}
use Rattle.text.specs.TaskLine.{wrong_task}
use Rattle.text.proofs.Going.{listed_push}
use Rattle.text.proofs.Tales.{blamed_two}
use Rattle.text.proofs.lines.add_task.Goals as goal

pub returns : goal.returns
returns c =
    let count : c.len.result ≡ length (vec_items c.args.reading.now.tasks) = search rules in
    record {
      hours = refl;
      wrong =
          blamed_two _ (λ i. wrong_task c.args.hours i c.args.text.now)
          (rw count at c.in_ok-check_count.ensures) c.in_ok-task.ensures.told;
      listed = λ cs h.
          simp (c.in_ok-push.ensures.items, c.in_ok-push-2.ensures.items)
          (listed_push _ cs _ _ _ _ _ h c.in_ok-task.ensures.read);
    }
