-- A night from the bytes that say it.
use Rattle.std.proofs.Common.{◌≡◌, ℕ, List, length, map, ap, ◌∙◌, arith}
use Rattle.std.specs.List.{range_with_len}
use Rattle.std.proofs.lemmas.List.FromFn.{length-map-range_with_len, get_or-map-range_with_len}
use Rattle.night.specs.declared.task.Task.{Task}
use Rattle.night.specs.Format.{WellFormed, Says, task_in}
use Rattle.night.specs.Reading.{Headed}
use Rattle.night.specs.Task.{blank_task, Sound}

module _ (b : List ℕ) (n m : ℕ) (ts : List Task) (h : Headed b n m) (e : ts ≡ map (task_in b) (range_with_len 0 m)) where
  -- the tasks that are read, one after another, are the bytes'
  pub read_says : Says b n ts
  read_says =
      let long : length ts ≡ m = ap length e ∙ length-map-range_with_len (task_in b) 0 m in
      record {
        hours = h.hours;
        count = long ∙ h.count;
        tasks = λ j l. rw e (get_or-map-range_with_len (task_in b) 0 m j j blank_task (omega arith) (omega arith));
      }

  -- and where the bytes are a night's, the tasks are
  pub read_sound : WellFormed b → Sound n ts
  read_sound g =
      let s = read_says in
      record {
        some = h.some;
        short = h.short;
        few = omega (arith, s.count, g.few);
        each = λ j l. rw (s.tasks j l, h.hours) (g.each j (omega (arith, s.count)));
      }
