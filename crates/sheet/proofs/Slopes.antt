-- Loads compared by cross products.
use Rattle.std.proofs.Common.{◌≡◌, ℕ, zero, suc, ◌+◌, ◌*◌, ◌/◌, ◌^◌, ◌<◌, ◌≤◌, Bool, true, false, List, get_or, inl, inr, mul-le-mul_right, mul-pos, mul_right_comm, le_of_mul-le-mul_right, arith, ltb-false, ltb-true, le-ltb}
use Rattle.std.proofs.lemmas.Bool.{cases_eq, cases_lt}
use Rattle.even.specs.Day.{Day, load}
use Rattle.even.specs.Whole.{whole}
use Rattle.even.proofs.Shares.{whole_some}
use Rattle.sheet.specs.Sheet.{amount, den, first_of, group, num, over, plan, start}
use Rattle.sheet.specs.Verdict.{Adds, Level, Loaded, NotEven, Sized}
use Rattle.sheet.specs.Layout.{Flat, Steep, listed, lower}
use Rattle.sheet.proofs.ByTask.{listed_skip, share_some}
use Rattle.sheet.proofs.Places.{over_some}

-- the order of fractions by cross products is transitive
pub cross_le :
    (n₁ d₁ n₂ d₂ n₃ d₃ : ℕ) → 0 < d₂ → n₁ * d₂ ≤ n₂ * d₁ → n₂ * d₃ ≤ n₃ * d₂ → n₁ * d₃ ≤ n₃ * d₁
cross_le n₁ d₁ n₂ d₂ n₃ d₃ p h k =
    le_of_mul-le-mul_right
    (omega
    (arith, mul-le-mul_right d₃ h, mul-le-mul_right d₁ k, mul_right_comm n₁ d₂ d₃, mul_right_comm n₂ d₁ d₃, mul_right_comm n₃ d₂ d₁))
    p

-- not lower than one that isn't lower
pub lower_not :
    (b : List ℕ) (t u s : ℕ) → 0 < den b u → lower b t u ≡ false → lower b u s ≡ false → lower b t s ≡ false
lower_not b t u s p h k =
    le-ltb _ _
    (cross_le (num b s) (den b s) (num b u) (den b u) (num b t) (den b t) p (ltb-false _ _ k) (ltb-false _ _ h))

-- nor than one that is lower than it
pub lower_more :
    (b : List ℕ) (t u s : ℕ) → 0 < den b u → lower b t u ≡ false → lower b s u ≡ true → lower b t s ≡ false
lower_more b t u s p h k =
    le-ltb _ _
    (cross_le (num b s) (den b s) (num b u) (den b u) (num b t) (den b t) p (omega (arith, ltb-true (num b s * den b u) (num b u * den b s) k)) (ltb-false _ _ h))

pub lower_self : (b : List ℕ) (s : ℕ) → lower b s s ≡ false
lower_self b s = le-ltb _ _ (omega arith)

module _ (b : List ℕ) (p : ℕ) (set : ℕ → Bool) (n : ℕ) where
  pub flat_none : Flat b p set n 0
  unfolding Flat
  flat_none s t l = absurd (omega arith)

  pub flat_more :
      (s : ℕ) → Flat b p set n s → ((t : ℕ) → t < n → 0 < listed b p set s → set t ≡ true → lower b t s ≡ false) →
      Flat b p set n (s + 1)
  unfolding Flat
  flat_more s f h i t l m d q =
      elim (cases_eq i s) [
        | inl e ↦ rw e (h t m (rw e at d) q)
        | inr ne ↦ f i t (omega arith) m d q
      ]

  -- nothing is done in an hour
  pub flat_idle : (s : ℕ) → Flat b p set n s → listed b p set s ≡ 0 → Flat b p set n (s + 1)
  flat_idle s f z = flat_more s f (λ t l d. absurd (omega arith))

  -- an hour in which no more lies than in the least
  pub flat_low :
      (s low : ℕ) → Flat b p set n s → 0 < den b low → ((t : ℕ) → t < n → set t ≡ true → lower b t low ≡ false) →
      lower b low s ≡ false → Flat b p set n (s + 1)
  flat_low s low f o h k = flat_more s f (λ t l d q. lower_not b t low s o (h t l q) k)

  -- no hour at all
  pub flat_empty : ((s : ℕ) → set s ≡ false) → Flat b p set n n
  unfolding Flat
  flat_empty h s t l m d q = absurd (omega (arith, listed_skip b p s set (h s)))

-- a product that isn't 0 has a first factor that isn't
pos_of_mul_pos : (m n : ℕ) → 0 < m * n → 0 < m
pos_of_mul_pos zero n h = absurd (omega arith)
pos_of_mul_pos (suc m) n h = omega arith

-- loads in parts of w, and the fractions that they are
module _ (w l₁ l₂ n₁ d₁ n₂ d₂ : ℕ) (p₁ : 0 < d₁) (p₂ : 0 < d₂) (e₁ : l₁ * d₁ ≡ n₁ * w) (e₂ : l₂ * d₂ ≡ n₂ * w) where
  pub load_le : n₁ * d₂ ≤ n₂ * d₁ → l₁ ≤ l₂
  load_le h = le_of_mul-le-mul_right (omega (arith, e₂, cross_le l₁ w n₁ d₁ n₂ d₂ p₁ (omega (arith, e₁)) h)) p₂

  pub load_lt : 0 < w → n₁ * d₂ < n₂ * d₁ → l₁ < l₂
  load_lt p h =
      elim (cases_lt l₁ l₂) [
        | inl l ↦ l
        | inr ge ↦
            absurd
            (omega
            (arith, h, cross_le n₂ d₂ l₂ w n₁ d₁ p (omega (arith, e₂)) (omega (arith, e₁, mul-le-mul_right d₁ ge))))
      ]

module _ (y : Day) (b : List ℕ) (loads : (s : ℕ) → s < y.hours → Loaded y b s) where
  pub loaded_le :
      (s t : ℕ) → s < y.hours → t < y.hours → lower b t s ≡ false → load y (plan y b) s ≤ load y (plan y b) t
  loaded_le s t l m h =
      load_le whole _ _ (num b s) (den b s) (num b t) (den b t) (loads s l).over (loads t m).over (loads s l).load (loads t m).load
      (ltb-false _ _ h)

  pub loaded_lt :
      (s t : ℕ) → s < y.hours → t < y.hours → lower b t s ≡ true → load y (plan y b) t < load y (plan y b) s
  loaded_lt s t l m h =
      load_lt whole _ _ (num b t) (den b t) (num b s) (den b s) (loads t m).over (loads s l).over (loads t m).load (loads s l).load
      whole_some (ltb-true _ _ h)

  -- a task is done where its amount isn't 0
  pub done_listed :
      (j s p : ℕ) → p ≡ start y b j + 1 → 0 < plan y b j s → 0 < listed b p (y.may j) s
  unfolding plan amount
  done_listed j s p e h = rw e (pos_of_mul_pos (amount y b j s) (whole / over y b j) h)

  pub listed_done :
      (j s p : ℕ) → p ≡ start y b j + 1 → 0 < over y b j → over y b j ≤ 255 → 0 < listed b p (y.may j) s → 0 < plan y b j s
  unfolding plan amount
  listed_done j s p e o q h =
      mul-pos (rw e at h) (share_some (over y b j) o q)

  -- hours that are flat are level
  pub flat_level :
      (j p m : ℕ) → p ≡ start y b j + 1 → m ≤ y.hours → Flat b p (y.may j) y.hours m →
      (s t : ℕ) → s < m → t < y.hours → Level y b j s t
  unfolding Flat
  flat_level j p m e w f s t l k d q = loaded_le s t (omega arith) k (f s t l k (done_listed j s p e d) q)

  -- a task that adds up has a denominator
  pub adds_over : (j : ℕ) → Adds y b j → 0 < over y b j
  adds_over j w = omega (arith, over_some y b j w.there w.some, (loads (first_of y b (group y b j)) w.some).over)

  pub adds_small : ((i : ℕ) → get_or b i 0 < 2 ^ 8) → (j : ℕ) → Adds y b j → over y b j ≤ 255
  adds_small h j w =
      omega (arith, over_some y b j w.there w.some, h (first_of y b (group y b j) * 9 + 8))

  -- a steep task is refused
  pub steep_refused :
      Sized y b → ((i : ℕ) → get_or b i 0 < 2 ^ 8) → ((j : ℕ) → j < y.tasks → Adds y b j) → (j p s t : ℕ) → j < y.tasks →
      p ≡ start y b j + 1 → ((i u v : ℕ) → i < j → u < y.hours → v < y.hours → Level y b i u v) →
      Steep b p (y.may j) y.hours s t → NotEven y b j s t
  steep_refused z h a j p s t l e f w =
      record {
        sized = z;
        loads = loads;
        adds = a;
        task = l;
        hour = w.hour;
        other = w.other;
        tasks_before = f;
        hours_before = flat_level j p s e (omega (arith, w.hour)) w.flat;
        others_before = λ v m d q. loaded_le s v w.hour (omega (arith, w.other)) (w.before v m q);
        done = listed_done j s p e (adds_over j (a j l)) (adds_small h j (a j l)) w.done;
        may = w.member;
        less = loaded_lt s t w.hour w.other w.less;
      }
