-- Bit i of a row is hour i.
use Rattle.std.proofs.Common.{◌≡◌, ℕ, zero, suc, ◌+◌, ◌-◌, ◌*◌, ◌/◌, ◌%◌, ◌^◌, ◌<◌, ◌≤◌, List, [], ◌∷◌, length, get_or, take, drop, sym, ap, ◌∙◌, inl, inr, mul_assoc, pow-suc, arith}
use Rattle.std.proofs.lemmas.Nat.{shr-shr, shr_high}
use Rattle.std.proofs.lemmas.List.{length-take, get_or-take, get_or-drop, get_or_past}
use Rattle.std.proofs.lemmas.Bool.{cases_lt}
use Rattle.sets.specs.Bit.{bit}
use Rattle.night.specs.Bytes.{little}
use Rattle.night.specs.Format.{width, place, hours_in, task_in}
use Rattle.night.specs.Theorems.{Bytes, RowBits}
use Rattle.sets.proofs.Bits.{bit_zero, bit_suc, bit_first}
use Rattle.sets.proofs.Members.{has_bit}

-- the digits of a number of m digits with another above it
bit_low : (m x y i : ℕ) → i < m → bit (x + y * 2 ^ m) i ≡ bit x i
bit_low zero x y i l = absurd (omega arith)
bit_low (suc m) x y zero l =
    let e : (x + y * 2 ^ suc m) % 2 ≡ x % 2 = omega (arith, ap (λ p. y * p) (pow-suc 2 m), mul_assoc y (2 ^ m) 2) in
    rw (bit_first (x + y * 2 ^ suc m), bit_first x, e)
bit_low (suc m) x y (suc i) l =
    let e : (x + y * 2 ^ suc m) / 2 ≡ x / 2 + y * 2 ^ m =
    omega (arith, ap (λ p. y * p) (pow-suc 2 m), mul_assoc y (2 ^ m) 2) in
    rw (bit_suc (x + y * 2 ^ suc m) i, bit_suc x i, e) (bit_low m (x / 2) y i (omega arith))

bit_high : (m x y i : ℕ) → x < 2 ^ m → bit (x + y * 2 ^ m) (m + i) ≡ bit y i
unfolding bit
bit_high m x y i l =
    let c : x + y * 2 ^ m ≡ y * 2 ^ m + x = omega arith in
    rw (c, ← shr-shr (y * 2 ^ m + x) m i, shr_high y m x l)

-- digit i of a number is digit i % 8 of byte i / 8
little_bit :
    (bs : List ℕ) → ((i : ℕ) → get_or bs i 0 < 256) → (i : ℕ) → bit (little bs) i ≡ bit (get_or bs (i / 8) 0) (i % 8)
unfolding little
little_bit [] h i = bit_zero i ∙ sym (bit_zero (i % 8))
little_bit (x ∷ xs) h i =
    elim (cases_lt i 8) [
      | inl l ↦
          let d : i / 8 ≡ 0 = omega arith in
          let r : i % 8 ≡ i = omega arith in rw (d, r) (bit_low 8 x (little xs) i l)
      | inr l ↦
          let e : i ≡ 8 + (i - 8) = omega arith in
          let d : i / 8 ≡ suc ((i - 8) / 8) = omega arith in
          let r : i % 8 ≡ (i - 8) % 8 = omega arith in
          rw (d, r)
          (ap (bit (x + little xs * 256)) e ∙ bit_high 8 x (little xs) (i - 8) (h 0)
          ∙ little_bit xs (λ k. h (suc k)) (i - 8))
    ]

-- bytes of a part are bytes
part_bytes : (b : List ℕ) (p w i : ℕ) → Bytes b → get_or (take w (drop p b)) i 0 < 256
part_bytes b p w i h =
    elim (cases_lt i w) [
      | inl l ↦ rw (get_or-take w (drop p b) i 0 l, get_or-drop p b i 0) (h (p + i))
      | inr g ↦
          let past : length (take w (drop p b)) ≤ i = omega (arith, length-take w (drop p b)) in
          rw (get_or_past (take w (drop p b)) i 0 past) (omega arith)
    ]

pub row_bits : RowBits
row_bits b h g j i l m =
    let w = width (hours_in b) in
    let p = place w j + 4 in
    let k : i / 8 < w = omega arith in
    has_bit (task_in b j).hours i (omega (arith, g.short))
    ∙ little_bit (take w (drop p b)) (λ q. part_bytes b p w q h) i
    ∙ ap (λ x. bit x (i % 8)) (get_or-take w (drop p b) (i / 8) 0 k ∙ get_or-drop p b (i / 8) 0)
