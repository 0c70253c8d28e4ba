-- Bytes that are no night have one refusal.
use Rattle.std.proofs.Common.{◌≡◌, ℕ, ◌+◌, ◌-◌, ◌*◌, ◌%◌, ◌<◌, ◌≤◌, cond, eqb, ltb, leb, List, sym, refl, ap, ◌∙◌, inl, inr, arith}
use Rattle.std.proofs.lemmas.Nat.{mod-mul-add}
use Rattle.std.proofs.lemmas.Bool.{cases_eq}
use Rattle.std.proofs.lemmas.Bool.Decides.{nat_tests}
use Rattle.night.specs.Format.{WellFormed, width, hours_in, count_in, task_in, end_in}
use Rattle.night.specs.Refusal.{Fault, First}
use Rattle.night.specs.Refusal.Fault.{hours, tasks, units, row, goes_on}
use Rattle.night.specs.Refusal.First.{missing, fault}
use Rattle.night.specs.Theorems.{OneRefusal}
use Rattle.night.proofs.Places.{place_next}
use Rattle.night.proofs.Rows.{fits_row}

-- the number of a fault follows from its place, where a task takes s bytes and the tasks end at e
kind : ℕ → ℕ → ℕ → ℕ
kind s e p = cond (ltb p 2) 2 (cond (leb e p) 1 (cond (eqb ((p - 2) % s) 0) 3 4))

fault_kind :
    (b : List ℕ) (n p : ℕ) → 0 < hours_in b → Fault b n p → n ≡ kind (4 + width (hours_in b)) (end_in b) p
unfolding kind
fault_kind b n p h (hours e q bad) = rw (e, q)
fault_kind b n p h (tasks e q bad) = rw (e, q)
fault_kind b n p h (units j e q l bad) =
    let s = 4 + width (hours_in b) in
    let next = place_next (width (hours_in b)) j (count_in b) l in
    let at : (p - 2) % s ≡ 0 =
    ap (λ k. k % s) (let k : p - 2 ≡ j * s + 0 = omega arith in k) ∙ mod-mul-add j s 0 (omega arith) in
    let in_front : p < end_in b = omega (arith, next) in
    let two : 2 ≤ p = omega arith in
    grind (arith, nat_tests)
fault_kind b n p h (row j e q l bad) =
    let s = 4 + width (hours_in b) in
    let next = place_next (width (hours_in b)) j (count_in b) l in
    let at : (p - 2) % s ≡ 4 =
    ap (λ k. k % s) (let k : p - 2 ≡ j * s + 4 = omega arith in k) ∙ mod-mul-add j s 4 (omega arith) in
    let in_front : p < end_in b = omega (arith, next) in
    let two : 2 ≤ p = omega arith in
    grind (arith, nat_tests)
fault_kind b n p h (goes_on e q bad) =
    let two : 2 ≤ p = omega arith in
    grind (arith, nat_tests)

-- a fault at the first byte is 2
fault_zero : (b : List ℕ) (n p : ℕ) → p ≤ 0 → Fault b n p → n ≡ 2
fault_zero b n p z (hours e q bad) = e
fault_zero b n p z (tasks e q bad) = e
fault_zero b n p z (units j e q l bad) = absurd (omega arith)
fault_zero b n p z (row j e q l bad) = absurd (omega arith)
fault_zero b n p z (goes_on e q bad) = absurd (omega arith)

-- of two first faults at one place
same_number :
    (b : List ℕ) (n m p : ℕ) → ((v q : ℕ) → Fault b v q → p ≤ q) → Fault b n p → Fault b m p → n ≡ m
same_number b n m p least f g =
    elim (cases_eq (hours_in b) 0) [
      | inl z ↦
          let first = least 2 0 (hours refl refl (inl z)) in fault_zero b n p first f ∙ sym (fault_zero b m p first g)
      | inr some ↦ fault_kind b n p (omega arith) f ∙ sym (fault_kind b m p (omega arith) g)
    ]

no_fault : (b : List ℕ) (n p : ℕ) → WellFormed b → Fault b n p → ⊥
no_fault b n p g (hours e q (inl z)) = omega (arith, g.some)
no_fault b n p g (hours e q (inr l)) = omega (arith, g.short)
no_fault b n p g (tasks e q l) = omega (arith, g.few)
no_fault b n p g (units j e q l bad) = omega (arith, (g.each j l).0)
no_fault b n p g (row j e q l bad) = fits_row (hours_in b) (task_in b j) (g.each j l) bad
no_fault b n p g (goes_on e q l) = omega (arith, g.ends)

one : (b : List ℕ) (n p m q : ℕ) → First b n p → First b m q → (n ≡ m) × (p ≡ q)
one b n p m q (missing l e x) (missing k d y) = (e ∙ sym d, x ∙ sym y)
one b n p m q (missing l e x) (fault whole g least) = absurd (whole l)
one b n p m q (fault whole f least) (missing k d y) = absurd (whole k)
one b n p m q (fault whole f least) (fault all g first) =
    let same : p ≡ q = omega (arith, least m q g, first n p f) in
    (same_number b n m p least f (rw same g), same)

none : (b : List ℕ) (n p : ℕ) → First b n p → WellFormed b → ⊥
none b n p (missing l e x) g = omega (arith, g.ends)
none b n p (fault whole f least) g = no_fault b n p g f

pub one_refusal : OneRefusal
one_refusal b n p f = (λ m q g. one b n p m q f g, none b n p f)
