-- Changes that people wrote, one in a line. Assumes nothing: these are definitions.
use Rattle.std.specs.Prelude.{◌≡◌, ℕ, suc, ◌<◌, cond, List, [], ◌∷◌, ◌++◌, length, slice_index_or, Some, None, Option}
use Rattle.change.specs.declared.kinds.Change.{Change}
use Rattle.text.specs.declared.change_line.Said.{Said}
use Rattle.text.specs.declared.change_line.Said.TheVariants.{Comes, Goes, More}
use Rattle.text.specs.declared.report.Report.{Report}
use Rattle.text.specs.ChangeLine.{change_said, wrong_change, Means}
use Rattle.text.specs.Lines.{lines, content, silent}
use Rattle.text.specs.Piece.{words}
use Rattle.text.specs.Told.{Told, Blamed}
use Rattle.text.specs.Unread.{Fit}

-- the line c, if it says a change
abbrev pub if_clear : List ℕ → Option Said → List (List ℕ)
if_clear c (Some Comes) = c ∷ []
if_clear c (Some (Goes j)) = c ∷ []
if_clear c (Some (More j u)) = c ∷ []
if_clear c None = []

-- the change that a line says, if any, as the line without its comment
abbrev pub change_in : List ℕ → List (List ℕ)
change_in l = cond (silent l) [] (if_clear (content l) (change_said (words (content l))))

-- the changes of some lines
abbrev pub change_lines : List (List ℕ) → List (List ℕ)
change_lines [] = []
change_lines (l ∷ ls) = change_in l ++ change_lines ls

-- what is wrong with line i
abbrev pub wrong_change_line : ℕ → List ℕ → List Told
wrong_change_line i l = cond (silent l) [] (wrong_change i (content l) (change_said (words (content l))))

-- what is wrong with some lines
abbrev pub wrong_changes : ℕ → List (List ℕ) → List Told
wrong_changes i [] = []
wrong_changes i (l ∷ ls) = wrong_change_line i l ++ wrong_changes (suc i) ls

-- the changes ds are those that the lines cs say, in order
pub record Meant (cs : List (List ℕ)) (ds : List Change) : Type 0 where
  pub count : length ds ≡ length cs
  pub each : (j : ℕ) (d : Change) → j < length cs → Means (slice_index_or cs j []) (change_said (words (slice_index_or cs j []))) (slice_index_or ds j d)

-- a reader went over the line l
pub record Passed (l : List ℕ) (a b : List Change) (s t : Report) : Type 0 where
  pub wrong : Blamed s t (wrong_change_line s.line l)
  pub meant : (cs : List (List ℕ)) → Meant cs a → Meant (cs ++ change_in l) b

-- the text is one of changes, and these are the changes
pub record Changed (bs : List ℕ) (ds : List Change) : Type 0 where
  pub fit : Fit bs
  pub clean : wrong_changes 1 (lines bs) ≡ []
  pub meant : Meant (change_lines (lines bs)) ds
