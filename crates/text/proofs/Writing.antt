-- Laws of a night as people write it.
use Rattle.std.proofs.Common.{◌≡◌, ℕ, zero, suc, ◌+◌, ◌<◌, ◌≤◌, Bool, List, [], ◌∷◌, ◌++◌, length, get_or, string_bytes, codes, decimal, String, sym, refl, ap, add-one, arith, Option, Bor, MatchOption, Some, None, ◌∙◌}
use Rattle.std.proofs.lemmas.List.{append_assoc, append-nil}
use Rattle.std.specs.List.{HoldsAt}
use Rattle.std.specs.declared.alloc.Global.{Global}
use Rattle.night.specs.declared.task.Task.{Task}
use Rattle.sets.specs.Hours.{has}
use Rattle.night.specs.Task.{blank_task}
use Rattle.text.specs.Written.{hour_text, hours_text, label, task_text, name_at, lines_text}

-- text after text
onto : (start before now x y : List ℕ) → before ≡ start ++ x → now ≡ before ++ y → now ≡ start ++ (x ++ y)
onto start before now x y e f = rw (f, e) (append_assoc start x y)

-- an hour more
pub hours_more :
    (p : ℕ → Bool) (k : ℕ) (start before now : List ℕ) → before ≡ start ++ hours_text p k →
    now ≡ before ++ hour_text p k → now ≡ start ++ hours_text p (k + 1)
unfolding hours_text
hours_more p k start before now e f = rw add-one (onto start before now (hours_text p k) (hour_text p k) e f)

pub hours_none : (p : ℕ → Bool) (start : List ℕ) → start ≡ start ++ hours_text p 0
unfolding hours_text
hours_none p start = sym (append-nil start)

-- the line of a task
pub task_whole :
    (n : ℕ) (name : List ℕ) (t : Task) (start a b c d : List ℕ) → a ≡ start ++ label name →
    b ≡ a ++ (decimal t.units ++ codes " :") → c ≡ b ++ hours_text (has t.hours) n → d ≡ c ++ codes "\n" →
    d ≡ start ++ task_text n name t
unfolding task_text
task_whole n name t start a b c d e f g h = rw (h, g, f, e) (simp append_assoc)

-- the name of a task
name_some : (ss : List (String Global)) (j : ℕ) (s : String Global) → j < length ss → s ≡ get_or ss j s → string_bytes s ≡ name_at ss j
name_some [] j s l e = absurd (omega arith)
name_some (x ∷ ss) zero s l e = ap string_bytes e
name_some (x ∷ ss) (suc j) s l e = name_some ss j s (omega arith) e

name_none : (ss : List (String Global)) (j : ℕ) → length ss ≤ j → [] ≡ name_at ss j
name_none [] j l = refl
name_none (x ∷ ss) zero l = absurd (omega arith)
name_none (x ∷ ss) (suc j) l = name_none ss j (omega arith)

-- the name that a look-up gives, empty where it gives none
pub name_read :
    (ss : List (String Global)) (j : ℕ) (o : Option (Bor (String Global))) (r : List ℕ) →
    MatchOption o (length ss ≤ j) (λ x. (j < length ss) × HoldsAt (λ y. x.now ≡ y) ss j) →
    MatchOption o (r ≡ []) (λ x. r ≡ string_bytes x.now) → r ≡ name_at ss j
name_read ss j None r at is = is ∙ name_none ss j at
name_read ss j (Some x) r at is = is ∙ name_some ss j x.now at.0 (at.1 x.now)

-- a line more
pub lines_more :
    (n : ℕ) (ts : List Task) (ss : List (String Global)) (k : ℕ) (start before now : List ℕ) →
    before ≡ start ++ lines_text n ts ss k → now ≡ before ++ task_text n (name_at ss k) (get_or ts k blank_task) →
    now ≡ start ++ lines_text n ts ss (k + 1)
unfolding lines_text
lines_more n ts ss k start before now e f =
    rw add-one (onto start before now (lines_text n ts ss k) (task_text n (name_at ss k) (get_or ts k blank_task)) e f)

pub lines_none : (n : ℕ) (ts : List Task) (ss : List (String Global)) (start : List ℕ) → start ≡ start ++ lines_text n ts ss 0
unfolding lines_text
lines_none n ts ss start = sym (append-nil start)
