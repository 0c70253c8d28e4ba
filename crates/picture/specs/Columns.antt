-- The bars of a picture. Assumes nothing: these are definitions.
use Rattle.std.specs.Prelude.{ℕ, ◌+◌, ◌-◌, ◌*◌, List, ◌++◌, codes, decimal}
use Rattle.fraction.specs.Fraction.{fraction_text}
use Rattle.night.specs.Night.{hours_of}
use Rattle.lines.specs.Lines.{concat}
use Rattle.picture.specs.declared.drawn.Drawn.{Drawn}
use Rattle.picture.specs.Drawn.{num_at, den_at, group_at, fill_at}
use Rattle.picture.specs.Length.{bar_length}

-- where a bar stands
abbrev pub place_text : ℕ → ℕ → ℕ → ℕ → List ℕ
place_text x y wide high =
    codes "<rect x=\"" ++ (decimal x ++ (codes "\" y=\"" ++ (decimal y ++ (codes "\" width=\"" ++ (decimal wide
    ++ (codes "\" height=\"" ++ (decimal high ++ codes "\"")))))))

-- how the bar of hour s looks, with its load for who points at it
abbrev pub look_text : ℕ → ℕ → ℕ → ℕ → List ℕ
look_text s fill num den =
    codes " fill=\"url(#g" ++ (decimal fill ++ (codes ")\" stroke=\"#222\"><title>hour " ++ (decimal s ++ (codes ": "
    ++ (fraction_text num den ++ codes "</title></rect>\n")))))

abbrev pub bar_text : ℕ → ℕ → ℕ → ℕ → ℕ → ℕ → ℕ → ℕ → List ℕ
bar_text s x y wide high fill num den = place_text x y wide high ++ look_text s fill num den

-- how high it is, where m / n is 260 high
abbrev pub high_at : Drawn → ℕ → ℕ → ℕ → ℕ
high_at d m n s = bar_length 260 (num_at d.loads.now s) (den_at d.loads.now s) m n

-- it stands on 400, in its column, which is c wide, and is filled as its group is
abbrev pub column_at : Drawn → ℕ → ℕ → ℕ → ℕ → List ℕ
column_at d c m n s =
    bar_text s (201 + s * c) (400 - high_at d m n s) (c - 2) (high_at d m n s) (fill_at (group_at 0 d.groups.now s))
    (num_at d.loads.now s) (den_at d.loads.now s)

-- a bar for each hour
abbrev pub columns_text : Drawn → ℕ → ℕ → ℕ → List ℕ
columns_text d c m n = concat (hours_of d.night.now) (column_at d c m n)
