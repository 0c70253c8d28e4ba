-- How rounds end: each ships some, and the last layer is the set of hours that can still reach room.
use Rattle.std.proofs.Common.{ℕ, ◌+◌, ◌<◌, List, get_or, refl, inl, inr, arith}
use Rattle.std.proofs.lemmas.Bool.{cases_eq}
use Rattle.fraction.specs.Sum.{sum, both}
use Rattle.fraction.proofs.Sums.{sum_lt, any_some}
use Rattle.sets.specs.declared.hours.Hours.{Hours}
use Rattle.sets.specs.Hours.{has, blank}
use Rattle.flow.specs.declared.net.Net.{Net}
use Rattle.flow.specs.Flow.{column, Closed}
use Rattle.flow.specs.Lent.{permits, flow, left, room, layer, Shipped, Sound, Layered, Stuck}
use Rattle.flow.specs.Outcome.{Ended}
use Rattle.flow.proofs.Cells.{cell_some}
use Rattle.flow.proofs.Paths.{touch, mark_flow}
use Rattle.flow.proofs.Reach.{layers_reach}

-- what is shipped is less to be left
pub shipped_less :
    {net : Net} {work : List ℕ} {net' : Net} {work' : List ℕ} {j s d : ℕ} (m : ℕ) → j < m → 0 < d →
    Shipped net work net' work' j s d → sum m (left net') < sum m (left net)
shipped_less {net} {work} {net'} {work'} {j} {s} {d} m lj pos g =
    sum_lt m (left net') (left net)
    (λ i li. elim (cases_eq i j) [ inl e ↦ rw e (omega (arith, g.took)) | inr ne ↦ omega (arith, g.lefts i ne) ])
    j lj (omega (arith, g.took))

module _ {m : ℕ} {may : List Hours} {net : Net} {work : List ℕ} {layers : List Hours} {d : ℕ}
    (w : Layered m may net layers d) (e : Stuck m may net (get_or layers d blank)) (v : Sound m (permits may) net work) where
  last_closed : Closed m 96 (permits may) (flow net work) (layer layers d)
  last_closed =
      record {
        back = λ j s t lj ls lt can inn pos.
            e.shut j s lj (touch may j (get_or layers d blank) t lt can inn) (cell_some net.marks work j s pos);
      }

  pub ended : (j : ℕ) → j < m → 0 < left net j → Ended m may net work (get_or layers d blank)
  ended j lj pos =
      record {
        reaches =
            layers_reach w.ways (flow net work) (λ s. room net s + column m (flow net work) s)
            (λ i s li ls on. omega (arith, mark_flow net work i s on, v.marks.some i s li on))
            (λ s ls. refl) last_closed;
        shipped = λ i li h.
            (let x = any_some 96 (both (permits may i) (has (get_or layers d blank))) h in
            let b = x.2 in
            e.idle i li (touch may i (get_or layers d blank) x.0 x.1 (grind arith) (grind arith)));
        some = (j, lj, pos);
      }
