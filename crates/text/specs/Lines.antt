-- A night, line by line. Assumes nothing: these are definitions.
use Rattle.std.specs.Prelude.{◌≡◌, ℕ, suc, ◌+◌, ◌<◌, Bool, true, false, cond, List, [], ◌∷◌, ◌++◌, length, vec_items, String, Option, Some, None, ◌==◌, nat_eq, slice_index_or}
use Rattle.std.specs.Borrow.{Bor}
use Rattle.std.specs.declared.alloc.Global.{Global}
use Rattle.night.specs.declared.task.Task.{Task}
use Rattle.text.specs.declared.mistake.Fault.TheVariants.{Header, ManyTasks}
use Rattle.text.specs.declared.reading.Reading.{Reading}
use Rattle.text.specs.Header.{header_says, hours_said, wrong_header}
use Rattle.text.specs.Piece.{pieces, words, first}
use Rattle.text.specs.TaskLine.{wrong_task, Entered}
use Rattle.text.specs.Told.{Told, told, Blamed}

-- the lines of a text
abbrev pub lines : List ℕ → List (List ℕ)
lines bs = pieces (λ b. nat_eq b 10) bs

-- the lines of what is left of a text; none, after its last line
abbrev pub lines_left : Option (Bor (List ℕ)) → List (List ℕ)
lines_left None = []
lines_left (Some bs) = lines bs.now

-- a line without its comment
abbrev pub content : List ℕ → List ℕ
content l = first (pieces (λ b. nat_eq b 35) l)

abbrev pub none : List (List ℕ) → Bool
none [] = true
none (w ∷ ws) = false

-- a line that says nothing
abbrev pub silent : List ℕ → Bool
silent l = none (words (content l))

-- the number of hours after a line, where it was o before; none, before there was a header
abbrev pub next_hours : Option ℕ → List ℕ → Option ℕ
next_hours None l = cond (silent l) None (Some (hours_said (header_says (words (content l)))))
next_hours (Some n) l = Some n

-- the task that a line adds, if any, as the line without its comment
abbrev pub adds : Option ℕ → List ℕ → List (List ℕ)
adds None l = []
adds (Some n) l = cond (silent l) [] (content l ∷ [])

-- the task after the 200th is one too many
abbrev pub many : ℕ → ℕ → List Told
many i k = cond (k == 200) ((i, ManyTasks, []) ∷ []) []

-- what is wrong with line i, after k tasks
abbrev pub wrong_line : ℕ → Option ℕ → ℕ → List ℕ → List Told
wrong_line i None k l = cond (silent l) [] (wrong_header i (header_says (words (content l))))
wrong_line i (Some n) k l = cond (silent l) [] (many i k ++ wrong_task n i (content l))

-- the tasks of some lines
abbrev pub entries : Option ℕ → List (List ℕ) → List (List ℕ)
entries o [] = []
entries o (l ∷ ls) = adds o l ++ entries (next_hours o l) ls

-- the number of hours after some lines
abbrev pub last_hours : Option ℕ → List (List ℕ) → Option ℕ
last_hours o [] = o
last_hours o (l ∷ ls) = last_hours (next_hours o l) ls

-- what is wrong with some lines
abbrev pub wrong_lines : ℕ → Option ℕ → ℕ → List (List ℕ) → List Told
wrong_lines i o k [] = []
wrong_lines i o k (l ∷ ls) = wrong_line i o k l ++ wrong_lines (suc i) (next_hours o l) (k + length (adds o l)) ls

-- what is wrong with line i, the last, if there was no header
abbrev pub no_header : ℕ → Option ℕ → List Told
no_header i None = (i, Header, []) ∷ []
no_header i (Some n) = []

-- what is wrong with a text
abbrev pub wrong_text : List ℕ → List Told
wrong_text bs = wrong_lines 1 None 0 (lines bs) ++ no_header (length (lines bs)) (last_hours None (lines bs))

-- the tasks ts with the names ss are those that the lines cs say, in order
pub record Listed (n : ℕ) (cs : List (List ℕ)) (ts : List Task) (ss : List (String Global)) : Type 0 where
  pub tasks : length ts ≡ length cs
  pub names : length ss ≡ length cs
  pub each : (j : ℕ) (t : Task) (s : String Global) → j < length cs → Entered n (slice_index_or cs j []) (slice_index_or ts j t) (slice_index_or ss j s)

-- n is the number of hours, where it is known
abbrev pub Agrees : Option ℕ → ℕ → Type 0
Agrees None n = Unit {0}
Agrees (Some m) n = m ≡ n

-- a reader added the task of a line, which says c, in a night of n hours
pub record Added (n : ℕ) (c : List ℕ) (a b : Reading) : Type 0 where
  pub hours : b.hours ≡ a.hours
  pub wrong : Blamed a.report b.report (many a.report.line (length (vec_items a.tasks)) ++ wrong_task n a.report.line c)
  pub listed : (cs : List (List ℕ)) → Listed n cs (vec_items a.tasks) (vec_items a.names) → Listed n (cs ++ c ∷ []) (vec_items b.tasks) (vec_items b.names)

-- a reader went over the line l
pub record Went (l : List ℕ) (a b : Reading) : Type 0 where
  pub hours : b.hours ≡ next_hours a.hours l
  pub wrong : Blamed a.report b.report (wrong_line a.report.line a.hours (length (vec_items a.tasks)) l)
  pub listed : (n : ℕ) (cs : List (List ℕ)) → Agrees a.hours n → Listed n cs (vec_items a.tasks) (vec_items a.names) → Listed n (cs ++ adds a.hours l) (vec_items b.tasks) (vec_items b.names)

-- a reader went over a text
pub record Read (bs : List ℕ) (r : Reading) : Type 0 where
  pub hours : r.hours ≡ last_hours None (lines bs)
  pub wrong : told r.report.mistakes ≡ wrong_text bs
  pub listed : (n : ℕ) → Agrees r.hours n → Listed n (entries None (lines bs)) (vec_items r.tasks) (vec_items r.names)
