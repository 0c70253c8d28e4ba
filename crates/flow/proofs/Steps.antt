-- What a change of cells does to rows, columns and room.
use Rattle.std.proofs.Common.{◌≡◌, ℕ, ◌+◌, ◌*◌, ◌<◌, ◌≤◌, Bool, true, List, get_or, sym, ap, ◌∙◌, inl, inr, arith}
use Rattle.std.proofs.lemmas.Bool.{cases_eq, both_ways}
use Rattle.fraction.proofs.Sums.{sum_same, sum_update, sum_at}
use Rattle.sets.specs.declared.hours.Hours.{Hours}
use Rattle.flow.specs.declared.net.Net.{Net}
use Rattle.flow.specs.Flow.{row, column}
use Rattle.flow.specs.Lent.{flow, left, room, Marks, Grew, Shipped, Shifted, Sound, Shut, Steady}

module _ {net : Net} {work : List ℕ} {net' : Net} {work' : List ℕ} {j s d : ℕ} (ls : s < 96) (g : Grew net work net' work' j s d) where
  pub grew_row : row 96 (flow net' work') j ≡ row 96 (flow net work) j + d
  grew_row =
      omega (arith, g.at, sum_update 96 (flow net work j) (flow net' work' j) s ls (λ t lt ne. sym (g.cells j t lt (λ a b. ne b))))

  pub grew_rows : (i : ℕ) → (i ≡ j → ⊥) → row 96 (flow net' work') i ≡ row 96 (flow net work) i
  grew_rows i ne = sum_same 96 (flow net' work' i) (flow net work i) (λ t lt. g.cells i t lt (λ a b. ne a))

  pub grew_column : (m : ℕ) → j < m → column m (flow net' work') s ≡ column m (flow net work) s + d
  grew_column m lj =
      omega (arith, g.at, sum_update m (λ i. flow net work i s) (λ i. flow net' work' i s) j lj (λ i li ne. sym (g.cells i s ls (λ a b. ne a))))

  pub grew_columns : (m t : ℕ) → t < 96 → (t ≡ s → ⊥) → column m (flow net' work') t ≡ column m (flow net work) t
  grew_columns m t lt ne = sum_same m (λ i. flow net' work' i t) (λ i. flow net work i t) (λ i li. g.cells i t lt (λ a b. ne b))

  -- what an hour bears and has room for stays
  pub grew_balance :
      (m : ℕ) → j < m → (t : ℕ) → t < 96 →
      room net' t + column m (flow net' work') t ≡ room net t + column m (flow net work) t
  grew_balance m lj t lt =
      elim (cases_eq t s) [
        | inl e ↦ rw e (omega (arith, g.there, grew_column m lj))
        | inr ne ↦ omega (arith, g.rooms t ne, grew_columns m t lt ne)
      ]

  -- the memory behind the rows stays
  pub grew_rest : (m : ℕ) → j < m → (k : ℕ) → m * 96 ≤ k → get_or work' k 0 ≡ get_or work k 0
  grew_rest m lj k lk = g.rest k (λ e. omega arith)

-- a sound state stays sound where a cell that may be used grows, and where one shrinks
module _
    {m : ℕ} {may : ℕ → ℕ → Bool} {net : Net} {work : List ℕ} {net' : Net} {work' : List ℕ} {j s d : ℕ} (lj : j < m) (ls : s < 96)
    (marks : Marks m net.marks work → Marks m net'.marks work') (w : Sound m may net work) where
  pub grew_sound : Grew net work net' work' j s d → may j s ≡ true → Sound m may net' work'
  grew_sound g can =
      record {
        only = λ i t li lt h. g.cells i t lt (λ a b. both_ways _ (rw (a, b) at h) can) ∙ w.only i t li lt h;
        marks = marks w.marks;
        fits = λ t lt. omega (arith, w.fits t lt, grew_balance ls g m lj t lt);
      }

  pub fell_sound : Grew net' work' net work j s d → Sound m may net' work'
  fell_sound g =
      record {
        only = λ i t li lt h.
            (let o = w.only i t li lt h in
            elim (cases_eq i j) [
              | inl ei ↦ elim (cases_eq t s) [
                | inl et ↦ (let a = g.at in let o' = rw (ei, et) at o in rw (ei, et) (omega (arith, a, o')))
                | inr nt ↦ omega (arith, o, g.cells i t lt (λ x y. nt y))
              ]
              | inr ni ↦ omega (arith, o, g.cells i t lt (λ x y. ni x))
            ]);
        marks = marks w.marks;
        fits = λ t lt. omega (arith, w.fits t lt, grew_balance ls g m lj t lt);
      }

-- an hour that bears nothing stays so
module _ {m : ℕ} {hours : Hours} {net : Net} {work : List ℕ} {net' : Net} {work' : List ℕ} {j s d : ℕ} (lj : j < m) (ls : s < 96)
    (w : Shut m hours net work) where
  pub grew_shut : Grew net work net' work' j s d → Shut m hours net' work'
  grew_shut g = record { none = λ t lt out. grew_balance ls g m lj t lt ∙ w.none t lt out }

  pub fell_shut : Grew net' work' net work j s d → Shut m hours net' work'
  fell_shut g = record { none = λ t lt out. sym (grew_balance ls g m lj t lt) ∙ w.none t lt out }

-- a cell is at most what its hour bears
pub cell_column : (m : ℕ) (net : Net) (work : List ℕ) (j s : ℕ) → j < m → flow net work j s ≤ column m (flow net work) s
cell_column m net work j s lj = sum_at m (λ i. flow net work i s) j lj

-- one after the other
pub steady_then :
    {m : ℕ} {net : Net} {work : List ℕ} {net' : Net} {work' : List ℕ} {net'' : Net} {work'' : List ℕ} →
    Steady m net work net' work' → Steady m net' work' net'' work'' → Steady m net work net'' work''
steady_then a b =
    record {
      rows = λ j l. b.rows j l ∙ a.rows j l;
      columns = λ s l. b.columns s l ∙ a.columns s l;
      rest = λ k l. b.rest k l ∙ a.rest k l;
    }

module _
    {net : Net} {work : List ℕ} {net' : Net} {work' : List ℕ} {j s d : ℕ} (m : ℕ) (lj : j < m) (ls : s < 96)
    (g : Shipped net work net' work' j s d) where
  pub shipped_steady : Steady m net work net' work'
  shipped_steady =
      record {
        rows = λ i li. elim (cases_eq i j) [
          | inl e ↦ rw e (omega (arith, g.took, grew_row ls g.grew))
          | inr ne ↦ omega (arith, g.lefts i ne, grew_rows ls g.grew i ne)
        ];
        columns = grew_balance ls g.grew m lj;
        rest = grew_rest ls g.grew m lj;
      }

module _
    {net : Net} {work : List ℕ} {net' : Net} {work' : List ℕ} {j t u d : ℕ} (m : ℕ) (lj : j < m) (lt : t < 96) (lu : u < 96)
    (g : Shifted net work net' work' j t u d) where
  pub shifted_rows : (i : ℕ) → i < m → row 96 (flow net' work') i ≡ row 96 (flow net work) i
  shifted_rows i li =
      elim (cases_eq i j) [
        | inl e ↦ rw e (omega (arith, grew_row lt g.fell, grew_row lu g.grew))
        | inr ne ↦ omega (arith, grew_rows lt g.fell i ne, grew_rows lu g.grew i ne)
      ]

  pub shifted_steady : Steady m net work net' work'
  shifted_steady =
      record {
        rows = λ i li. (let l : left net' i ≡ left net i = ap (λ x. get_or x i 0) g.lefts in omega (arith, l, shifted_rows i li));
        columns = λ s ls. omega (arith, grew_balance lt g.fell m lj s ls, grew_balance lu g.grew m lj s ls);
        rest = λ k lk. omega (arith, grew_rest lt g.fell m lj k lk, grew_rest lu g.grew m lj k lk);
      }

  pub shifted_sound :
      (may : ℕ → ℕ → Bool) → may j u ≡ true → Sound m may net work → (Marks m net.marks work → Marks m net'.marks work') → Sound m may net' work'
  shifted_sound may can w marks =
      record {
        only = λ i s li ls h.
            (let b = g.grew.cells i s ls (λ a b. both_ways _ (rw (a, b) at h) can) in
            let o = w.only i s li ls h in
            elim (cases_eq i j) [
              | inl ei ↦ elim (cases_eq s t) [
                | inl es ↦ (let a = g.fell.at in let b' = rw (ei, es) at b in let o' = rw (ei, es) at o in rw (ei, es) (omega (arith, a, b', o')))
                | inr ns ↦ omega (arith, b, o, g.fell.cells i s ls (λ x y. ns y))
              ]
              | inr ni ↦ omega (arith, b, o, g.fell.cells i s ls (λ x y. ni x))
            ]);
        marks = marks w.marks;
        fits = λ s ls. omega (arith, w.fits s ls, shifted_steady.columns s ls);
      }
