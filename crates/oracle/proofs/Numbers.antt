-- Laws of numbers in bytes.
use Rattle.std.proofs.Common.{◌≡◌, ℕ, suc, ◌+◌, ◌-◌, ◌*◌, ◌^◌, ◌<◌, ◌≤◌, List, Option, Some, None, get_or, sym, ◌∙◌, pow-suc, arith, lit<}
use Rattle.std.specs.List.{slice_get}
use Rattle.std.specs.Option.{UnwrapsOrElse, unwrap_or}
use Rattle.std.proofs.lemmas.Option.{unwrap_or-slice_get}
use native.Mathlib.Nat.{pow-le-pow_right}
use Rattle.oracle.specs.Little.{little}

-- nothing is read yet
pub little_start : (b : List ℕ) (at w : ℕ) → 0 ≡ little b (at + w) (w - w)
unfolding little
little_start b at w = let z : w - w ≡ 0 = omega arith in rw z

-- one byte more, in front
pub little_step :
    (b : List ℕ) (at w i n : ℕ) → 0 < i → i ≤ w → n ≡ little b (at + i) (w - i) →
    n * 256 + get_or b (at + (i - 1)) 0 ≡ little b (at + (i - 1)) (w - (i - 1))
unfolding little
little_step b at w i n p l e =
    let s : w - (i - 1) ≡ suc (w - i) = omega arith in
    let t : at + (i - 1) + 1 ≡ at + i = omega arith in
    let r : little b (at + (i - 1) + 1) (w - i) ≡ n = rw t (sym e) in rw s (omega (arith, r))

-- and the number still fits
pub little_bound : (n x w i : ℕ) → 0 < i → i ≤ w → x < 256 → n < 256 ^ (w - i) → n * 256 + x < 256 ^ (w - (i - 1))
little_bound n x w i p l b h =
    let s : w - (i - 1) ≡ suc (w - i) = omega arith in rw s (omega (arith, pow-suc 256 (w - i)))

pub little_room : (n w i : ℕ) → 0 < i → w ≤ 16 → n < 256 ^ (w - i) → n * 256 + 255 < 2 ^ 128
little_room n w i p l h =
    let m : w - i ≤ 15 = omega arith in
    let q : 256 ^ (w - i) ≤ 256 ^ 15 = pow-le-pow_right (lit< tt) m in omega arith

-- what is read of a list of numbers, or 0 behind its end
read_or_zero : (o : Option ℕ) (x : ℕ) → UnwrapsOrElse o (λ y. y ≡ 0) x → x ≡ unwrap_or o 0
read_or_zero None x h = h
read_or_zero (Some y) x h = h

pub item_read : (b : List ℕ) (i x : ℕ) → UnwrapsOrElse (slice_get b i) (λ y. y ≡ 0) x → x ≡ get_or b i 0
item_read b i x h = read_or_zero (slice_get b i) x h ∙ unwrap_or-slice_get b i 0
