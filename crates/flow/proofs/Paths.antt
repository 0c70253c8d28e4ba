-- Room made in one hour by moves down the layers.
use Rattle.std.proofs.Common.{◌≡◌, ℕ, ◌+◌, ◌-◌, ◌*◌, ◌^◌, ◌<◌, ◌≤◌, Bool, true, false, List, get_or, ◌∙◌, inl, inr, arith}
use Rattle.std.proofs.lemmas.Bool.{cases_Bool, both_ways}
use Rattle.fraction.specs.Sum.{both}
use Rattle.fraction.proofs.Sums.{any_has}
use Rattle.sets.specs.declared.hours.Hours.{Hours}
use Rattle.sets.specs.Hours.{has, blank}
use Rattle.flow.specs.declared.net.Net.{Net}
use Rattle.flow.specs.Lent.{permits, marked, flow, room, layer, touches, Shifted, Sound, Layered}
use Rattle.flow.specs.Path.{NoStep, Freed}
use Rattle.flow.proofs.Cells.{cell_marked}
use Rattle.flow.proofs.Steps.{cell_column}

-- a task that may use an hour of a set touches it
pub touch : (may : List Hours) (j : ℕ) (h : Hours) (s : ℕ) → s < 96 → permits may j s ≡ true → has h s ≡ true → touches may j h ≡ true
touch may j h s l a b = any_has 128 (both (has (get_or may j blank)) (has h)) s (omega arith) (grind arith)

module _ {m : ℕ} {may : List Hours} {net : Net} {layers : List Hours} {d : ℕ} (w : Layered m may net layers d) (pos : 0 < d) where
  -- the layer below lies within the layer
  pub below_within : (s : ℕ) → layer layers (d - 1) s ≡ true → layer layers d s ≡ true
  below_within s h =
      let e : d - 1 + 1 ≡ d = omega arith in
      rw e at (w.ways.up (d - 1) (omega arith) s (w.low (d - 1) (omega arith) s h) h)

  pub below_out : (s : ℕ) → layer layers d s ≡ false → layer layers (d - 1) s ≡ false
  below_out s h =
      elim (cases_Bool (layer layers (d - 1) s)) [ inl t ↦ absurd (both_ways _ h (below_within s t)) | inr f ↦ f ]

  -- an hour of the layer that is not in the one below passes to it
  pub some_step :
      (t : ℕ) → layer layers d t ≡ true → layer layers (d - 1) t ≡ false → NoStep m may net (get_or layers (d - 1) blank) t → ⊥
  some_step t inn out n =
      let e : d - 1 + 1 ≡ d = omega arith in
      let at : layer layers (d - 1 + 1) t ≡ true = rw e inn in
      let p = w.ways.from (d - 1) (omega arith) t (w.low d (omega arith) t inn) at out in
      both_ways _ (n.none p.task p.task_in p.flows) (touch may p.task (get_or layers (d - 1) blank) p.hour p.hour_in p.allowed p.nearer)

-- moves within a set are moves within a larger one
pub freed_up :
    {near far : ℕ → Bool} {net : Net} {work : List ℕ} {net' : Net} {work' : List ℕ} {t want got : ℕ} →
    ((s : ℕ) → far s ≡ false → near s ≡ false) → Freed near net work net' work' t want got → Freed far net work net' work' t want got
freed_up h w =
    record { most = w.most; ready = w.ready; kept = λ j s ls o. w.kept j s ls (h s o); lefts = w.lefts }

-- after the hour u has room, a task is moved from hour t to it
module _
    {near far : ℕ → Bool} {net : Net} {work : List ℕ} {net' : Net} {work' : List ℕ} {net'' : Net} {work'' : List ℕ} {j t u ask got : ℕ}
    (within : (s : ℕ) → far s ≡ false → near s ≡ false) (w : Freed near net work net' work' u ask got)
    (g : Shifted net' work' net'' work'' j t u got) (lt : t < 96) (ne : t ≡ u → ⊥) where
  pub freed_more :
      far t ≡ true → far u ≡ true → (want : ℕ) → got ≤ want → Freed far net work net'' work'' t want got
  freed_more ft fu want le =
      record {
        most = le;
        ready = omega (arith, g.fell.there, g.grew.rooms t ne);
        kept = λ i s ls o.
            (let a = g.fell.cells i s ls (λ x y. both_ways _ o (rw y ft)) in
            let b = g.grew.cells i s ls (λ x y. both_ways _ o (rw y fu)) in
            omega (arith, a, b, w.kept i s ls (within s o)));
        lefts = g.lefts ∙ w.lefts;
      }

-- the flow of a task that has a mark in the hour
pub mark_flow : (net : Net) (work : List ℕ) (j s : ℕ) → marked net j s ≡ true → flow net work j s ≡ get_or work (j * 96 + s) 0
mark_flow net work j s h = cell_marked net.marks work j s h

-- no sum of a sound state overflows
module _ {m : ℕ} {may : ℕ → ℕ → Bool} {net : Net} {work : List ℕ} (w : Sound m may net work) (j s d : ℕ) (lj : j < m) (ls : s < 96) where
  pub room_fits : d ≤ flow net work j s → room net s + d < 2 ^ 64
  room_fits le = omega (arith, w.fits s ls, cell_column m net work j s lj)

  pub cell_fits : d ≤ room net s → flow net work j s + d < 2 ^ 64
  cell_fits le = omega (arith, w.fits s ls, cell_column m net work j s lj)
