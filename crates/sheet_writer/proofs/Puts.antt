-- Laws of what is put into bytes.
use Rattle.std.proofs.Common.{◌≡◌, ℕ, zero, suc, ◌+◌, ◌*◌, ◌/◌, ◌%◌, ◌^◌, ◌<◌, ◌≤◌, Bool, true, false, cond, ◌&&◌, eqb, List, length, get_or, set, sym, refl, ap, ◌∙◌, pow-suc, inl, inr, arith, get_or-set_other, lt-ltb}
use Rattle.std.specs.Int.{bytes_low_first, to_le_bytes, w64, w128}
use Rattle.std.proofs.lemmas.Nat.{and_mask, from_le_bytes-to_le_bytes_8, pow-add, shr-shr}
use Rattle.std.proofs.lemmas.Bool.{both_ways, cases_eq}
use Rattle.fraction.specs.Sum.{size}
use Rattle.fraction.proofs.Sums.{sum_none}
use Rattle.sets.specs.Bit.{bit}
use Rattle.sets.proofs.Bits.{bit_of_and, bit_ones}
use Rattle.sheet.specs.Layout.{listed}
use Rattle.sheet.specs.Sheet.{word}
use Rattle.sheet.proofs.ByTask.{size_skip, size_take, size_room, listed_take}
use Rattle.sheet_writer.specs.Written.{Kept}

-- the eight bytes of a number write it
pub word_of :
    (b w : List ℕ) (p n : ℕ) → n < 2 ^ 64 → w ≡ to_le_bytes w64 n →
    ((k : ℕ) → k < length w → get_or b (p + k) 0 ≡ get_or w k 0) → word b p ≡ n
unfolding word
word_of b w p n l e h =
    let long : length w ≡ 8 = ap length e in
    let at : (k : ℕ) → k < 8 → get_or b (p + k) 0 ≡ get_or (to_le_bytes w64 n) k 0 =
    λ k m. h k (omega arith) ∙ ap (λ x. get_or x k 0) e in
    let z : p ≡ p + 0 = omega arith in
    let first : get_or b p 0 ≡ n % 256 = ap (λ i. get_or b i 0) z ∙ at 0 (omega arith) in
    omega
    (arith, from_le_bytes-to_le_bytes_8 n l, first, at 1 (omega arith), at 2 (omega arith), at 3 (omega arith), at 4 (omega arith), at 5 (omega arith), at 6 (omega arith), at 7 (omega arith))

-- words, and what is kept
pub word_same : (b b' : List ℕ) (p : ℕ) → ((i : ℕ) → p ≤ i → i < p + 8 → get_or b' i 0 ≡ get_or b i 0) → word b' p ≡ word b p
unfolding word
word_same b b' p h =
    omega
    (arith, h p (omega arith) (omega arith), h (p + 1) (omega arith) (omega arith), h (p + 2) (omega arith) (omega arith), h (p + 3) (omega arith) (omega arith), h (p + 4) (omega arith) (omega arith), h (p + 5) (omega arith) (omega arith), h (p + 6) (omega arith) (omega arith), h (p + 7) (omega arith) (omega arith))

pub kept_none : (p q : ℕ) (b : List ℕ) → Kept p q b b
kept_none p q b = record { before = λ i l. refl; behind = λ i l. refl }

-- one range after another, and a range that holds both
pub kept_join :
    {p q u v w : ℕ} {a b c : List ℕ} → Kept p u a b → Kept q v b c → p ≤ q → u ≤ w → v ≤ w → Kept p w a c
kept_join k m l h r =
    record {
      before = λ i t. m.before i (omega arith) ∙ k.before i t;
      behind = λ i t. m.behind i (omega arith) ∙ k.behind i (omega arith);
    }

-- an amount listed before what is written
pub listed_kept :
    (b b' : List ℕ) (p s : ℕ) (set : ℕ → Bool) → ((i : ℕ) → i < p + size s set * 8 + 8 → get_or b' i 0 ≡ get_or b i 0) →
    listed b' p set s ≡ listed b p set s
listed_kept b b' p s set h =
    ap (λ w. cond (set s) w 0) (word_same b b' (p + size s set * 8) (λ i l m. h i m))

-- one byte
pub kept_set : (b : List ℕ) (p v : ℕ) → Kept p (p + 1) b (set b p v)
kept_set b p v =
    record {
      before = λ i l. get_or-set_other b p i v 0 (omega arith);
      behind = λ i l. get_or-set_other b p i v 0 (omega arith);
    }

-- byte k of a number that is written from its byte i on, low byte first
byte_of : (i k n v : ℕ) → k < n → get_or (bytes_low_first i n v) k 0 ≡ v / 256 ^ (i + k) % 256
byte_of i k zero v l = absurd (omega arith)
byte_of zero zero (suc n) v l = let e : v / 256 ^ 0 ≡ v = omega arith in rw e
byte_of (suc i) zero (suc n) v l = let e : suc i ≡ suc i + 0 = omega arith in ap (λ j. v / 256 ^ j % 256) e
byte_of i (suc k) (suc n) v l =
    let e : suc i + k ≡ i + suc k = omega arith in
    byte_of (suc i) k n v (omega arith) ∙ ap (λ j. v / 256 ^ j % 256) e

bytes_power : (k : ℕ) → 256 ^ k ≡ 2 ^ (k * 8)
bytes_power zero = refl
bytes_power (suc k) =
    let e : suc k * 8 ≡ k * 8 + 8 = omega arith in
    omega (arith, pow-suc 256 k, bytes_power k, pow-add 2 (k * 8) 8, ap (λ i. 2 ^ i) e)

-- the binary digits of a number, byte by byte
byte_bit : (v k i : ℕ) → i < 8 → bit (v / 256 ^ k % 256) i ≡ bit v (k * 8 + i)
unfolding bit
byte_bit v k i l =
    ap (λ x. bit x i) (sym (and_mask (v / 256 ^ k) 8))
    ∙ bit_of_and (v / 256 ^ k) 255 i
    ∙ (ap (λ x. bit (v / 256 ^ k) i && x) (bit_ones 8 i ∙ lt-ltb i 8 l) ∙ true_right (bit (v / 256 ^ k) i))
    ∙ ap (λ x. eqb (x % 2) 1) (ap (λ p. v / p / 2 ^ i) (bytes_power k) ∙ shr-shr v (k * 8) i)
  where
    true_right : (x : Bool) → (x && true) ≡ x
    true_right true = refl
    true_right false = refl

-- digit s of a number is one of its byte s / 8
pub bit_in_bytes : (v s : ℕ) → s < 128 → bit (get_or (to_le_bytes w128 v) (s / 8) 0) (s % 8) ≡ bit v s
bit_in_bytes v s l =
    let e : 0 + s / 8 ≡ s / 8 = omega arith in
    let q : s / 8 * 8 + s % 8 ≡ s = omega arith in
    ap (λ x. bit x (s % 8)) (byte_of 0 (s / 8) 16 v (omega arith) ∙ ap (λ k. v / 256 ^ k % 256) e)
    ∙ byte_bit v (s / 8) (s % 8) (omega arith)
    ∙ ap (bit v) q

-- the amounts of a row for the hours of a set below n stand from place p on, and end at the place `at`; the other bytes are those of `start`
pub record RowPut (n p : ℕ) (set : ℕ → Bool) (row : List ℕ) (at : ℕ) (start b : List ℕ) : Type 0 where
  pub ends : at ≡ p + size n set * 8
  pub says : (s : ℕ) → s < n → set s ≡ true → listed b p set s ≡ get_or row s 0
  pub kept : Kept p at start b

pub row_none : (p : ℕ) (set : ℕ → Bool) (row b : List ℕ) → RowPut 0 p set row p b b
row_none p set row b =
    record {
      ends = omega (arith, sum_none (λ i. cond (set i) 1 0));
      says = λ s l. absurd (omega arith);
      kept = kept_none p p b;
    }

-- there is room for the amount of an hour of the set
pub row_room :
    {n p : ℕ} {set : ℕ → Bool} {row : List ℕ} {at : ℕ} {start b : List ℕ} (m : ℕ) → RowPut n p set row at start b → n < m →
    set n ≡ true → at + 8 ≤ p + size m set * 8
row_room {n} {p} {set} m w l h = omega (arith, w.ends, size_room n m set l h)

-- an hour outside of the set adds nothing
pub row_skip :
    {n p : ℕ} {set : ℕ → Bool} {row : List ℕ} {at : ℕ} {start b : List ℕ} → RowPut n p set row at start b → set n ≡ false →
    RowPut (n + 1) p set row at start b
row_skip {n} {p} {set} w m =
    record {
      ends = omega (arith, w.ends, size_skip n set m);
      says =
          λ s l h.
          elim (cases_eq s n) [
            | inl e ↦ absurd (both_ways _ m (rw e at h))
            | inr ne ↦ w.says s (omega arith) h
          ];
      kept = w.kept;
    }

-- one of it adds its amount
pub row_more :
    {n p : ℕ} {set : ℕ → Bool} {row : List ℕ} {at : ℕ} {start b b' : List ℕ} → RowPut n p set row at start b → set n ≡ true →
    word b' at ≡ get_or row n 0 → Kept at (at + 8) b b' → RowPut (n + 1) p set row (at + 8) start b'
row_more {n} {p} {set} {row} {at} {start} {b} {b'} w m e k =
    record {
      ends = omega (arith, w.ends, size_take n set m);
      says =
          λ s l h.
          elim (cases_eq s n) [
            | inl q ↦ rw q (listed_take b' p n at set m w.ends ∙ e)
            | inr ne ↦
                listed_kept b b' p s set (λ i t. k.before i (omega (arith, w.ends, size_room s n set (omega arith) h)))
                ∙ w.says s (omega arith) h
          ];
      kept = kept_join w.kept k (omega (arith, w.ends)) (omega arith) (omega arith);
    }
