-- The lines that a person reads. Assumes nothing: these are definitions.
use Rattle.std.specs.Prelude.{ℕ, zero, suc, Bool, true, ◌&&◌, List, [], ◌∷◌, ◌++◌, codes, decimal}
use Rattle.fraction.specs.Fraction.{fraction_text}

-- hour 1 load 8/3
abbrev pub hour_line : ℕ → ℕ → ℕ → List ℕ
hour_line hour num den = codes "hour " ++ (decimal hour ++ (codes " load " ++ fraction_text num den))

-- task 0 hour 1 amount 8/3
abbrev pub task_line : ℕ → ℕ → ℕ → ℕ → List ℕ
task_line task hour num den =
    codes "task " ++ (decimal task ++ (codes " hour " ++ (decimal hour ++ (codes " amount " ++ fraction_text num den))))

-- refused 4 at 6
abbrev pub refused_line : ℕ → ℕ → List ℕ
refused_line number place = codes "refused " ++ (decimal number ++ (codes " at " ++ decimal place))

-- refused 9 at 4 hours 1 2: task 4 is done in hour 1, though less lies in hour 2
abbrev pub uneven_line : ℕ → ℕ → ℕ → List ℕ
uneven_line task done less =
    codes "refused 9 at " ++ (decimal task ++ (codes " hours " ++ (decimal done ++ (codes " " ++ decimal less))))

-- a line with its end
abbrev pub ended : List ℕ → List ℕ
ended line = line ++ (10 ∷ [])

-- f 0 ++ f 1 ++ … ++ f (n - 1)
unfoldable pub concat : ℕ → (ℕ → List ℕ) → List ℕ
concat zero f = []
concat (suc n) f = concat n f ++ f n

-- each index below n passes the test p
unfoldable pub each : ℕ → (ℕ → Bool) → Bool
each zero p = true
each (suc n) p = each n p && p n
