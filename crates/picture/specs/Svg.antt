-- The frame of an SVG. Assumes nothing: these are definitions.
use Rattle.std.specs.Prelude.{◌≡◌, ℕ, ◌+◌, ◌*◌, ◌<◌, ◌≤◌, List, ◌++◌, length, codes, decimal}
use Rattle.night.specs.Night.{hours_of, tasks_of}
use Rattle.picture.specs.declared.drawn.Drawn.{Drawn}
use Rattle.picture.specs.Bars.{Largest}
use Rattle.picture.specs.Columns.{columns_text}

-- a picture of this size
abbrev pub svg_text : ℕ → ℕ → List ℕ → List ℕ
svg_text w h body =
    codes "<svg xmlns=\"http://www.w3.org/2000/svg\" width=\""
    ++ (decimal w ++ (codes "\" height=\"" ++ (decimal h ++ (codes "\" viewBox=\"0 0 " ++ (decimal w ++ (codes " " ++ (decimal h
    ++ (codes "\" font-family=\"sans-serif\" font-size=\"11\">\n" ++ (body ++ codes "</svg>\n")))))))))

-- one SVG with a bar for each hour, the largest load 260 high; wide enough for columns of 10 at least and for the levels beside them, and high enough for rows of 13 at least
pub record Framed (d : Drawn) (bs : List ℕ) : Type 0 where
  pub width : ℕ
  pub height : ℕ
  pub column : ℕ
  pub num : ℕ
  pub den : ℕ
  pub behind : List ℕ
  pub after : List ℕ
  pub whole : bs ≡ svg_text width height (behind ++ (columns_text d column num den ++ after))
  pub largest : Largest d.loads.now num den
  pub broad : 10 ≤ column
  pub wide : 510 + hours_of d.night.now * column ≤ width
  pub high : 500 + length (tasks_of d.night.now) * 13 < height
