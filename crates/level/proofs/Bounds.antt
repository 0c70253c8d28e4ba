-- Laws of bounds.
use Rattle.std.proofs.Common.{◌≡◌, ℕ, ◌<◌, Bool, ◌∙◌, arith}
use Rattle.fraction.specs.Sum.{part, size, both}
use Rattle.fraction.proofs.Sums.{part_same_test}
use Rattle.level.specs.Bounds.{Upper, Lower}

-- bounds speak of the tests below m and n only
pub upper_same :
    (m n : ℕ) (may : ℕ → ℕ → Bool) (units : ℕ → ℕ) (t h t' h' : ℕ → Bool) (a b : ℕ) →
    ((j : ℕ) → j < m → t' j ≡ t j) → ((s : ℕ) → s < n → h' s ≡ h s) →
    Upper m n may units t h a b → Upper m n may units t' h' a b
upper_same m n may units t h t' h' a b et eh w q e k o =
    let s1 : part m (both t' q) units ≡ part m (both t q) units =
    part_same_test m _ _ units (λ j i. let g = et j i in grind arith) in
    let s2 : size n (both h' e) ≡ size n (both h e) =
    part_same_test n _ _ (λ s. 1) (λ s l. let g = eh s l in grind arith) in
    rw (s1, s2)
    (w q e (λ j s i l y x v g. k j s i l (et j i ∙ y) x (eh s l ∙ v) g) (rw s2 at o))

pub lower_same :
    (m n : ℕ) (may : ℕ → ℕ → Bool) (units : ℕ → ℕ) (t h t' h' : ℕ → Bool) (a b : ℕ) →
    ((j : ℕ) → j < m → t' j ≡ t j) → ((s : ℕ) → s < n → h' s ≡ h s) →
    Lower m n may units t h a b → Lower m n may units t' h' a b
lower_same m n may units t h t' h' a b et eh w q e k =
    let s1 : part m (both t' q) units ≡ part m (both t q) units =
    part_same_test m _ _ units (λ j i. let g = et j i in grind arith) in
    let s2 : size n (both h' e) ≡ size n (both h e) =
    part_same_test n _ _ (λ s. 1) (λ s l. let g = eh s l in grind arith) in
    let s3 : part m t' units ≡ part m t units = part_same_test m _ _ units et in
    let s4 : size n h' ≡ size n h = part_same_test n _ _ (λ s. 1) eh in
    rw (s1, s2, s3, s4)
    (w q e (λ j s i l y x v g. k j s i l (et j i ∙ y) x (eh s l ∙ v) g))
