-- A flow in lent memory: which functions the slices and arrays stand for. Assumes nothing: these are definitions.
use Rattle.std.specs.Prelude.{◌≡◌, ℕ, ◌+◌, ◌*◌, ◌^◌, ◌<◌, ◌≤◌, Bool, true, false, cond, ◌&&◌, List, ◌==◌, ◌≢◌, nat_le, slice_index, slice_index_or}
use Rattle.sets.specs.declared.hours.Hours.{Hours}
use Rattle.sets.specs.Hours.{has, blank}
use Rattle.flow.specs.declared.net.Net.{Net}
use Rattle.fraction.specs.Sum.{sum, any, both}
use Rattle.flow.specs.Flow.{row, column}
use Rattle.flow.specs.Layer.{Layers}

-- task j may use hour s
abbrev pub permits : List Hours → ℕ → ℕ → Bool
permits may j s = has (slice_index_or may j blank) s

-- the capacity of hour s: an hour outside of the set has none
abbrev pub within : Hours → List ℕ → ℕ → ℕ
within hours capacity s = cond (has hours s) (slice_index capacity s) 0

-- rows for m tasks, of which there are at most 200, and enough cells for them: 96 for each task
abbrev pub needed : ℕ → ℕ
needed m = m * 96

abbrev pub fitting : ℕ → ℕ → ℕ → Bool
fitting rows m cells = rows == m && (nat_le m 200 && nat_le (needed m) cells)

-- how much of task j is shipped into hour s: rows of 96 cells, of which only those that are marked count
unfoldable pub cell : List Hours → List ℕ → ℕ → ℕ → ℕ
cell marks work j s = cond (has (slice_index_or marks j blank) s) (slice_index work (j * 96 + s)) 0

-- the flow that the lent memory holds, where task j has flow, what is left of it, and the room in hour s
abbrev pub flow : Net → List ℕ → ℕ → ℕ → ℕ
flow net work = cell net.marks work

abbrev pub marked : Net → ℕ → ℕ → Bool
marked net j s = has (slice_index_or net.marks j blank) s

abbrev pub left : Net → ℕ → ℕ
left net j = slice_index net.left j

abbrev pub room : Net → ℕ → ℕ
room net s = slice_index net.room s

-- a cell of the first m tasks that is marked isn't 0, and lies within the hours
pub record Marks (m : ℕ) (marks : List Hours) (work : List ℕ) : Type 0 where
  pub some : (j s : ℕ) → j < m → has (slice_index_or marks j blank) s ≡ true → 0 < slice_index work (j * 96 + s)
  pub low : (j s : ℕ) → j < m → has (slice_index_or marks j blank) s ≡ true → s < 96

-- cell j s is larger by d in the second state, and the room in hour s smaller by d; all else is the same
pub record Grew (net : Net) (work : List ℕ) (net' : Net) (work' : List ℕ) (j s d : ℕ) : Type 0 where
  pub at : flow net' work' j s ≡ flow net work j s + d
  pub cells : (i t : ℕ) → t < 96 → (i ≡ j → t ≢ s) → flow net' work' i t ≡ flow net work i t
  pub there : room net' s + d ≡ room net s
  pub rooms : (t : ℕ) → (t ≢ s) → room net' t ≡ room net t
  pub rest : (k : ℕ) → (k ≢ j * 96 + s) → slice_index work' k ≡ slice_index work k

-- d of task j is shipped into hour s
pub record Shipped (net : Net) (work : List ℕ) (net' : Net) (work' : List ℕ) (j s d : ℕ) : Type 0 where
  pub grew : Grew net work net' work' j s d
  pub took : left net' j + d ≡ left net j
  pub lefts : (i : ℕ) → (i ≢ j) → left net' i ≡ left net i

-- d of task j goes from hour t to hour u, by way of a state that has it in neither
pub record Shifted (net : Net) (work : List ℕ) (net' : Net) (work' : List ℕ) (j t u d : ℕ) : Type 0 where
  pub mid : Net
  pub cells : List ℕ
  pub fell : Grew mid cells net work j t d
  pub grew : Grew mid cells net' work' j u d
  pub lefts : net'.left ≡ net.left

-- a state of a flow of m tasks: nothing where a task may not be done, sound marks, and sums that fit
pub record Sound (m : ℕ) (may : ℕ → ℕ → Bool) (net : Net) (work : List ℕ) : Type 0 where
  pub only : (j s : ℕ) → j < m → s < 96 → may j s ≡ false → flow net work j s ≡ 0
  pub marks : Marks m net.marks work
  pub fits : (s : ℕ) → s < 96 → room net s + column m (flow net work) s < 2 ^ 64

-- an hour outside of the set has no room, and bears nothing
pub record Shut (m : ℕ) (hours : Hours) (net : Net) (work : List ℕ) : Type 0 where
  pub none : (s : ℕ) → s < 96 → has hours s ≡ false → room net s + column m (flow net work) s ≡ 0

-- from one state to another: what is shipped and left of a task, what an hour bears and has room for, and the memory behind
-- the rows, are the same
pub record Steady (m : ℕ) (net : Net) (work : List ℕ) (net' : Net) (work' : List ℕ) : Type 0 where
  pub rows : (j : ℕ) → j < m → left net' j + row 96 (flow net' work') j ≡ left net j + row 96 (flow net work) j
  pub columns :
      (s : ℕ) → s < 96 → room net' s + column m (flow net' work') s ≡ room net s + column m (flow net work) s
  pub rest : (k : ℕ) → m * 96 ≤ k → slice_index work' k ≡ slice_index work k

-- from one state to a sound one in which no more is left
pub record Better (m : ℕ) (may : ℕ → ℕ → Bool) (net : Net) (work : List ℕ) (net' : Net) (work' : List ℕ) : Type 0 where
  pub sound : Sound m may net' work'
  pub steady : Steady m net work net' work'
  pub less : sum m (left net') ≤ sum m (left net)

-- the hours that the sets of a list have
abbrev pub layer : List Hours → ℕ → ℕ → Bool
layer layers d s = has (slice_index_or layers d blank) s

-- layers up to k for the flow in lent memory, of hours below 96
pub record Layered (m : ℕ) (may : List Hours) (net : Net) (layers : List Hours) (k : ℕ) : Type 0 where
  pub ways : Layers m 96 (permits may) (marked net) (room net) (layer layers) k
  pub low : (d : ℕ) → d ≤ k → (s : ℕ) → layer layers d s ≡ true → s < 96

-- the task may use an hour of the set
abbrev pub touches : List Hours → ℕ → Hours → Bool
touches may j h = any 128 (both (has (slice_index_or may j blank)) (has h))

-- of the first m tasks, those that may use an hour of the set have nothing left, and their marks are in the next set
pub record Spread (m : ℕ) (may : List Hours) (net : Net) (from next : Hours) : Type 0 where
  pub keeps : (s : ℕ) → has from s ≡ true → has next s ≡ true
  pub adds : (s : ℕ) → has next s ≡ true → has from s ≡ false → (j : ℕ) × (j < m) × (touches may j from ≡ true) × (marked net j s ≡ true)
  pub all : (j s : ℕ) → j < m → touches may j from ≡ true → marked net j s ≡ true → has next s ≡ true
  pub idle : (j : ℕ) → j < m → touches may j from ≡ true → left net j ≡ 0

-- of the first m tasks, those that may use an hour of the set have nothing left, and flow only in the set
pub record Stuck (m : ℕ) (may : List Hours) (net : Net) (last : Hours) : Type 0 where
  pub shut : (j s : ℕ) → j < m → touches may j last ≡ true → marked net j s ≡ true → has last s ≡ true
  pub idle : (j : ℕ) → j < m → touches may j last ≡ true → left net j ≡ 0

-- nothing of the first m tasks is shipped yet
pub record Empty (m : ℕ) (supply : List ℕ) (net : Net) : Type 0 where
  pub all : (j : ℕ) → j < m → left net j ≡ slice_index supply j
  pub bare : (j s : ℕ) → j < m → marked net j s ≡ false
