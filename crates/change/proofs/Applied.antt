-- A night after a row of changes that can all be made.
use Rattle.std.proofs.Common.{◌≡◌, ℕ, List, sym, ap, ◌∙◌, subst}
use Rattle.night.specs.declared.night.Night.{Night}
use Rattle.night.specs.declared.task.Task.{Task}
use Rattle.night.specs.Night.{hours_of, tasks_of}
use Rattle.even.specs.Day.{Day}
use Rattle.even.specs.DayOf.{day, day_of}
use Rattle.even.specs.More.{Within}
use Rattle.even.proofs.Any.{more_work}
use Rattle.change.specs.declared.kinds.Change.{Change}
use Rattle.change.specs.Row.{AllCan, after_row}
use Rattle.change.specs.Growth.{NoHeavier}
use Rattle.change.specs.Changed.{Changed}
use Rattle.change.proofs.Growth.{row_adds, row_takes}

-- no task lost, no hour lighter
heavier : {y w : Day} {f : ℕ → ℕ} → Within y w f → NoHeavier y w
heavier {y} {w} {f} p d e x z px ex pz ez = more_work y w f d e x z p px ex pz ez

module _ (n : Night) (cs : List Change) (can : AllCan (hours_of n) (tasks_of n) cs) where
  pub changed : (m : Night) → hours_of m ≡ hours_of n → tasks_of m ≡ after_row (tasks_of n) cs → Changed n cs m
  changed m span tasks =
      let same : day_of m ≡ day (hours_of n) (after_row (tasks_of n) cs) =
      ap (λ h. day h (tasks_of m)) span ∙ ap (λ (ts : List Task). day (hours_of n) ts) tasks in
      record {
        can = can;
        span = span;
        tasks = tasks;
        adds = λ a. subst (λ (y : Day). NoHeavier (day_of n) y) (sym same) (heavier (row_adds (hours_of n) (tasks_of n) cs can a));
        takes = λ a.
            subst (λ (y : Day). NoHeavier y (day_of n)) (sym same)
            (heavier (row_takes (hours_of n) (tasks_of n) cs can a).1);
      }

-- what a row does to a copy of a night's hours and tasks, it does to the night
pub changed_copy :
    (n : Night) (cs : List Change) (h : ℕ) (us : List Task) (m : Night) → h ≡ hours_of n → us ≡ tasks_of n →
    AllCan h us cs → hours_of m ≡ h → tasks_of m ≡ after_row us cs → Changed n cs m
changed_copy n cs h us m e f can span tasks =
    changed n cs (subst (λ k. AllCan k (tasks_of n) cs) e (subst (λ (ts : List Task). AllCan h ts cs) f can)) m
    (span ∙ e) (tasks ∙ ap (λ (ts : List Task). after_row ts cs) f)
