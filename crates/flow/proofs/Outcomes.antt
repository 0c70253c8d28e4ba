-- From the state in which rounds end to what the call promises.
use Rattle.std.proofs.Common.{◌≡◌, ℕ, ◌+◌, ◌^◌, ◌<◌, Bool, true, ◌&&◌, ltb, List, get_or, replicate, refl, ◌∙◌, inl, inr, arith}
use lib.ListN.{get_or-replicate, length-replicate}
use Rattle.std.proofs.lemmas.List.{get_or_past}
use Rattle.std.proofs.lemmas.Bool.Decides.{nat_tests}
use Rattle.std.proofs.lemmas.Bool.{cases_lt, both_ways}
use Rattle.fraction.proofs.Sums.{sum_zero}
use Rattle.sets.specs.declared.hours.Hours.{Hours}
use Rattle.sets.specs.Hours.{has}
use Rattle.flow.specs.declared.net.Net.{Net}
use Rattle.flow.specs.declared.net.Filled.{Filled}
use Rattle.flow.specs.declared.net.Filled.TheVariants.{Whole, Cut}
use Rattle.flow.specs.Flow.{row, column, Flow, Reaches}
use Rattle.flow.specs.Lent.{permits, flow, left, room, within, Sound, Steady, Empty}
use Rattle.flow.specs.Outcome.{Settled, Outcome}
use Rattle.flow.proofs.Cells.{cell_bare}
use Rattle.flow.proofs.Cuts.{largest, whole_most}

-- the elements of a list of zeros, and past it
pub zeros : (n s : ℕ) → get_or {A = ℕ} (replicate n 0) s 0 ≡ 0
zeros n s =
    elim (cases_lt s n) [
      | inl l ↦ get_or-replicate n s 0 0 l
      | inr ge ↦ get_or_past (replicate n 0) s 0 (rw (length-replicate {A = ℕ} n 0) ge)
    ]

-- the hours of a set that lie below 96
module _
    (hours low used : Hours) (is_low : (k : ℕ) → has low k ≡ (ltb k 96 && ltb k 128))
    (is_used : (k : ℕ) → has used k ≡ (has hours k && has low k)) where
  pub used_low : (s : ℕ) → has used s ≡ true → s < 96
  used_low s h = let a = is_used s in let b = is_low s in grind (arith, nat_tests)

  pub used_within : (capacity : List ℕ) (s : ℕ) → s < 96 → within used capacity s ≡ within hours capacity s
  used_within capacity s l =
      let a = is_used s in
      let b = is_low s in
      let e : has used s ≡ has hours s = grind (arith, nat_tests) in rw e refl

-- capacities that are equal below n have equal reaches
reaches_as :
    {m n : ℕ} {may : ℕ → ℕ → Bool} {c c' : ℕ → ℕ} {f : ℕ → ℕ → ℕ} {u : ℕ → Bool} →
    ((s : ℕ) → s < n → c s ≡ c' s) → Reaches m n may c f u → Reaches m n may c' f u
reaches_as e w =
    record {
      roomy = record { room = λ s l h. w.roomy.room s l (omega (arith, e s l)) };
      closed = w.closed;
      least = λ v r q s l h. w.least v (record { room = λ t lt x. r.room t lt (omega (arith, e t lt)) }) q s l h;
    }

module _ {m : ℕ} {supply : List ℕ} {net : Net} (w : Empty m supply net) (work : List ℕ) where
  empty_cell : (j s : ℕ) → j < m → flow net work j s ≡ 0
  empty_cell j s lj = cell_bare net.marks work j s (w.bare j s lj)

  pub empty_row : (j : ℕ) → j < m → row 96 (flow net work) j ≡ 0
  empty_row j lj = sum_zero 96 (flow net work j) (λ s ls. empty_cell j s lj)

  pub empty_column : (s : ℕ) → column m (flow net work) s ≡ 0
  empty_column s = sum_zero m (λ j. flow net work j s) (λ j lj. empty_cell j s lj)

  pub empty_sound : (may : ℕ → ℕ → Bool) → ((s : ℕ) → s < 96 → room net s < 2 ^ 64) → Sound m may net work
  empty_sound may fits =
      record {
        only = λ j s lj ls h. empty_cell j s lj;
        marks = record { some = λ j s lj h. absurd (both_ways _ (w.bare j s lj) h); low = λ j s lj h. absurd (both_ways _ (w.bare j s lj) h) };
        fits = λ s ls. omega (arith, fits s ls, empty_column s);
      }

module _
    {m : ℕ} {net : Net} {work : List ℕ} {net' : Net} {work' : List ℕ} (may : List Hours) (a c : ℕ → ℕ)
    (rows : (j : ℕ) → j < m → left net j + row 96 (flow net work) j ≡ a j)
    (columns : (s : ℕ) → s < 96 → room net s + column m (flow net work) s ≡ c s)
    (v : Sound m (permits may) net' work') (w : Steady m net work net' work') where
  settled_flow : Flow m 96 (permits may) a c (flow net' work')
  settled_flow =
      record {
        only = v.only;
        rows = λ j l. omega (arith, rows j l, w.rows j l);
        columns = λ s l. omega (arith, columns s l, w.columns s l);
      }

  pub settled_outcome : (r : Filled) → Settled m may net' work' r → Outcome m (permits may) a c (flow net' work') r
  settled_outcome Whole e =
      let all : (j : ℕ) → j < m → row 96 (flow net' work') j ≡ a j = λ j l. omega (arith, e j l, rows j l, w.rows j l) in
      (settled_flow, all, whole_most m 96 (permits may) a c (flow net' work') all)
  settled_outcome (Cut u) e = (
    largest settled_flow (reaches_as (λ s l. w.columns s l ∙ columns s l) e.reaches)
        (λ j l h. omega (arith, e.shipped j l h, rows j l, w.rows j l)),
    (e.some.0, e.some.1, omega (arith, e.some.2, rows e.some.0 e.some.1, w.rows e.some.0 e.some.1)),
  )
