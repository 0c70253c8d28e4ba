-- Which fault is the first.
use Rattle.std.proofs.Common.{◌≡◌, ℕ, ◌+◌, ◌<◌, ◌≤◌, true, ◌⊎◌, List, length, sym, refl, ap, ◌∙◌, subst, inl, inr, arith}
use Rattle.std.proofs.lemmas.Bool.{cases_lt, cases_eq}
use Rattle.night.specs.declared.task.Task.{Task}
use Rattle.sets.specs.Bit.{bit}
use Rattle.night.specs.Format.{width, place, hours_in, count_in, row_in, units_in, task_in, end_in}
use Rattle.fraction.specs.Limits.{max_units}
use Rattle.night.specs.Reading.{Headed}
use Rattle.night.specs.Refusal.{Fault, First}
use Rattle.night.specs.Refusal.Fault.{hours, tasks, units, row, goes_on}
use Rattle.night.specs.Refusal.First.{fault}
use Rattle.night.specs.Task.{Fits}
use Rattle.night.proofs.Places.{place_mono, place_next}
use Rattle.night.proofs.Rows.{fits_row}

-- the tasks before j fit
abbrev pub Before : List ℕ → ℕ → ℕ → Type 0
Before b n j = (i : ℕ) → i < j → Fits n (task_in b i)

-- under a good header, where the tasks before j fit, no fault stands before task j
pub not_before :
    (b : List ℕ) (n m j : ℕ) → Headed b n m → j ≤ m → Before b n j → (v q : ℕ) → Fault b v q →
    place (width (hours_in b)) j ≤ q
not_before b n m j h l f v q (hours e p (inl z)) = absurd (omega (arith, h.hours, h.some))
not_before b n m j h l f v q (hours e p (inr g)) = absurd (omega (arith, h.hours, h.short))
not_before b n m j h l f v q (tasks e p g) = absurd (omega (arith, h.count, h.few))
not_before b n m j h l f v q (units i e p k g) =
    elim (cases_lt i j) [
      | inl s ↦ absurd (omega (arith, (f i s).0))
      | inr s ↦ omega (arith, place_mono (width (hours_in b)) j i s)
    ]
not_before b n m j h l f v q (row i e p k bad) =
    elim (cases_lt i j) [
      | inl s ↦ absurd (fits_row (hours_in b) (task_in b i) (subst (λ c. Fits c (task_in b i)) h.hours (f i s)) bad)
      | inr s ↦ omega (arith, place_mono (width (hours_in b)) j i s)
    ]
not_before b n m j h l f v q (goes_on e p g) =
    omega (arith, place_mono (width (hours_in b)) j (count_in b) (omega (arith, h.count)))

-- and if task j has few enough units, none stands before its row
pub not_before_row :
    (b : List ℕ) (n m j : ℕ) → Headed b n m → j < m → Before b n j → units_in b j ≤ max_units → (v q : ℕ) → Fault b v q →
    place (width (hours_in b)) j + 4 ≤ q
not_before_row b n m j h l f u v q (hours e p (inl z)) = absurd (omega (arith, h.hours, h.some))
not_before_row b n m j h l f u v q (hours e p (inr g)) = absurd (omega (arith, h.hours, h.short))
not_before_row b n m j h l f u v q (tasks e p g) = absurd (omega (arith, h.count, h.few))
not_before_row b n m j h l f u v q (units i e p k g) =
    elim (cases_lt j i) [
      | inl s ↦ omega (arith, place_next (width (hours_in b)) j i s)
      | inr s ↦
          elim (cases_eq i j) [
            | inl same ↦ absurd (omega (arith, ap (units_in b) same))
            | inr other ↦ absurd (omega (arith, (f i (omega arith)).0))
          ]
    ]
not_before_row b n m j h l f u v q (row i e p k bad) =
    elim (cases_lt i j) [
      | inl s ↦ absurd (fits_row (hours_in b) (task_in b i) (subst (λ c. Fits c (task_in b i)) h.hours (f i s)) bad)
      | inr s ↦ omega (arith, place_mono (width (hours_in b)) j i s)
    ]
not_before_row b n m j h l f u v q (goes_on e p g) =
    omega (arith, place_next (width (hours_in b)) j (count_in b) (omega (arith, h.count)))

-- the first fault: too many units, a bad row, bytes that go on
pub first_units :
    (b : List ℕ) (n m j p : ℕ) (t : Task) → Headed b n m → j < m → Before b n j → t ≡ task_in b j →
    max_units < t.units → p ≡ place (width n) j → First b 3 p
first_units b n m j p t h l f e g w =
    let at : p ≡ place (width (hours_in b)) j = w ∙ ap (λ c. place (width c) j) h.hours in
    let u : t.units ≡ units_in b j = ap (λ x. x.units) e in
    fault (λ s. omega (arith, h.ends)) (units j refl at (omega (arith, h.count)) (omega arith))
    (λ v q x. omega (arith, not_before b n m j h (omega arith) f v q x))

pub first_row :
    (b : List ℕ) (n m j p : ℕ) (t : Task) → Headed b n m → j < m → Before b n j → t ≡ task_in b j →
    t.units ≤ max_units → (t.hours.bits ≡ 0) ⊎ ((k : ℕ) × (n ≤ k) × (bit t.hours.bits k ≡ true)) →
    p ≡ place (width n) j + 4 → First b 4 p
first_row b n m j p t h l f e g bad w =
    let at : p ≡ place (width (hours_in b)) j + 4 = w ∙ ap (λ c. place (width c) j + 4) h.hours in
    let u : t.units ≡ units_in b j = ap (λ x. x.units) e in
    let r : t.hours.bits ≡ row_in b j = ap (λ x. x.hours.bits) e in
    fault (λ s. omega (arith, h.ends)) (row j refl at (omega (arith, h.count)) (moved r bad))
    (λ v q x. omega (arith, not_before_row b n m j h l f (omega arith) v q x))
  where
    moved :
        t.hours.bits ≡ row_in b j → (t.hours.bits ≡ 0) ⊎ ((k : ℕ) × (n ≤ k) × (bit t.hours.bits k ≡ true)) →
        (row_in b j ≡ 0) ⊎ ((k : ℕ) × (hours_in b ≤ k) × (bit (row_in b j) k ≡ true))
    moved r (inl z) = inl (sym r ∙ z)
    moved r (inr (k, s, o)) = inr (k, omega (arith, h.hours), ap (λ a. bit a k) (sym r) ∙ o)

pub first_past :
    (b : List ℕ) (n m p : ℕ) → Headed b n m → Before b n m → p ≡ place (width n) m → p < length b → First b 1 p
first_past b n m p h f w g =
    let at : p ≡ end_in b = w ∙ ap (λ c. place (width c) m) h.hours ∙ ap (place (width (hours_in b))) h.count in
    fault (λ s. omega (arith, h.ends)) (goes_on refl at (omega arith))
    (λ v q x. omega (arith, not_before b n m m h (omega arith) f v q x, ap (place (width (hours_in b))) h.count))
