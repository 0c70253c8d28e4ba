-- Bars of characters. Assumes nothing: these are definitions.
use Rattle.std.specs.Prelude.{◌≡◌, ℕ, ◌%◌, ◌<◌, true, cond, List, [], ◌++◌, length, Some, None, codes, decimal, Option, ◌==◌, nat_lt}
use Rattle.fraction.specs.declared.exact.Fraction.{Fraction}
use Rattle.fraction.specs.Fraction.{at_most, fraction_text}
use Rattle.night.specs.Night.{hours_of}
use Rattle.lines.specs.Lines.{concat}
use Rattle.picture.specs.declared.drawn.Drawn.{Drawn}
use Rattle.picture.specs.Drawn.{num_at, den_at, group_at}
use Rattle.picture.specs.Length.{bar_length}

-- m / d is the largest of the loads, or 0 where there is none
pub record Largest (ls : List Fraction) (m d : ℕ) : Type 0 where
  pub above : (k : ℕ) → k < length ls → at_most (num_at ls k) (den_at ls k) m d ≡ true
  pub among : 0 < m → (k : ℕ) × (k < length ls) × (num_at ls k ≡ m) × (den_at ls k ≡ d)

-- what the bar of a group is made of: five marks, again and again, and another for no group
abbrev pub mark_of : Option ℕ → List ℕ
mark_of None = codes "."
mark_of (Some g) =
    cond (g % 5 == 0) (codes "#")
    (cond (g % 5 == 1) (codes "=") (cond (g % 5 == 2) (codes "o") (cond (g % 5 == 3) (codes "+") (codes "-"))))

-- a text n times
abbrev pub times : ℕ → List ℕ → List ℕ
times n w = concat n (λ _. w)

-- what stands before the number of an hour, so that it takes two places
abbrev pub pad : ℕ → List ℕ
pad h = cond (nat_lt h 10) (codes " ") []

-- the line of an hour: its number, its bar, its load
abbrev pub bar_line : ℕ → List ℕ → ℕ → ℕ → ℕ → List ℕ
bar_line h mark n num den =
    pad h ++ (decimal h ++ (codes " |" ++ (times n mark ++ (codes " " ++ (fraction_text num den ++ codes "\n")))))

-- the line of hour s, where m / n has the longest bar
abbrev pub bar_at : Drawn → ℕ → ℕ → ℕ → List ℕ
bar_at d m n s =
    bar_line s (mark_of (group_at 0 d.groups.now s))
    (bar_length 52 (num_at d.loads.now s) (den_at d.loads.now s) m n)
    (num_at d.loads.now s) (den_at d.loads.now s)

-- the lines of all hours
abbrev pub hour_bars : Drawn → ℕ → ℕ → List ℕ
hour_bars d m n = concat (hours_of d.night.now) (bar_at d m n)

-- a heading, then a line for each hour, where the largest load has the longest bar
pub record Lined (d : Drawn) (bs : List ℕ) : Type 0 where
  pub num : ℕ
  pub den : ℕ
  pub largest : Largest d.loads.now num den
  pub whole :
      bs ≡ codes "hour, bar, load in units; the hours of a group bear one load and have one mark\n" ++ hour_bars d num den
