-- Laws of numbers as bytes.
use Rattle.std.proofs.Common.{◌≡◌, ℕ, zero, suc, ◌+◌, ◌-◌, ◌*◌, ◌/◌, ◌%◌, ◌^◌, ◌<◌, ◌≤◌, min, List, [], ◌∷◌, ◌++◌, length, get_or, take, drop, sym, refl, ap, ◌∙◌, inl, inr, mul_assoc, mul_comm, pow-suc, length-append, add-one, arith, replicate, lit<}
use native.Mathlib.Nat.{pow-le-pow_right, div-div-eq-div-mul}
use lib.Bits.{bit_and}
use Rattle.std.proofs.lemmas.Nat.{and_mask, div-add-mod'}
use Rattle.std.proofs.lemmas.List.{length-take, get_or-take, length-take-le, length-drop, append-nil, append_assoc, drop-replicate, take_all}
use Rattle.std.proofs.lemmas.Bool.{cases_lt}
use Rattle.std.specs.Int.{sum_through, byte_worth, from_le_bytes, w128}
use borrow.Rule.Slice.PartMut.{put_mid}
use Rattle.night.specs.Bytes.{little, digits}

pub length_digits : (w n : ℕ) → length (digits w n) ≡ w
unfolding digits
length_digits zero n = refl
length_digits (suc w) n = ap suc (length_digits w (n / 256))

-- what is written is what is read
pub little_digits : (w n : ℕ) → n < 256 ^ w → little (digits w n) ≡ n
unfolding little digits
little_digits zero n h = omega arith
little_digits (suc w) n h =
    omega (arith, little_digits w (n / 256) (omega (arith, pow-suc 256 w)), div-add-mod' n 256)

-- bytes that are read are written again
pub digits_little : (bs : List ℕ) → ((i : ℕ) → i < length bs → get_or bs i 0 < 256) → digits (length bs) (little bs) ≡ bs
unfolding little digits
digits_little [] h = refl
digits_little (x ∷ xs) h =
    let l : x < 256 = h 0 (omega arith) in
    let m : (x + little xs * 256) % 256 ≡ x = omega arith in
    let d : (x + little xs * 256) / 256 ≡ little xs = omega arith in
    rw (m, d) (ap (λ ys. x ∷ ys) (digits_little xs (λ i k. h (suc i) (omega arith))))

-- so many bytes write a number below so many powers
pub little_lt : (bs : List ℕ) → ((i : ℕ) → i < length bs → get_or bs i 0 < 256) → little bs < 256 ^ length bs
unfolding little
little_lt [] h = omega arith
little_lt (x ∷ xs) h =
    let l : x < 256 = h 0 (omega arith) in
    omega (arith, little_lt xs (λ i k. h (suc i) (omega arith)), pow-suc 256 (length xs))

-- the number of bytes as a sum over their places, as std's `from_le_bytes` has it
through_more : (xs : List ℕ) (k : ℕ) → sum_through (λ i. byte_worth (suc i) (get_or xs i 0)) k ≡ sum_through (λ i. byte_worth i (get_or xs i 0)) k * 256
through_more xs zero = omega arith
through_more xs (suc k) =
    omega (arith, through_more xs k, ap (λ p. get_or xs (suc k) 0 * p) (pow-suc 256 (suc k)), mul_assoc (get_or xs (suc k) 0) (256 ^ suc k) 256)

through_first : (f : ℕ → ℕ) (k : ℕ) → sum_through f (suc k) ≡ f 0 + sum_through (λ i. f (suc i)) k
through_first f zero = refl
through_first f (suc k) = omega (arith, through_first f k)

little_through : (xs : List ℕ) (k : ℕ) → length xs ≤ k + 1 → sum_through (λ i. byte_worth i (get_or xs i 0)) k ≡ little xs
unfolding little
little_through [] zero l = refl
little_through [] (suc k) l = omega (arith, little_through [] k (omega arith))
little_through (x ∷ []) zero l = omega arith
little_through (x ∷ (y ∷ xs)) zero l = absurd (omega arith)
little_through (x ∷ xs) (suc k) l =
    omega (arith, through_first (λ i. byte_worth i (get_or (x ∷ xs) i 0)) k, through_more xs k, little_through xs k (omega arith))

-- zeros behind bytes change no number
little_zeros : (xs : List ℕ) (k : ℕ) → little (xs ++ replicate k 0) ≡ little xs
unfolding little
little_zeros [] zero = refl
little_zeros [] (suc k) = omega (arith, little_zeros [] k)
little_zeros (x ∷ xs) k = omega (arith, little_zeros xs k)

-- the first bytes, filled up with zeros
pub little_padded :
    (b w : List ℕ) (n v : ℕ) → n ≡ min (length b) 16 → w ≡ take n b →
    v ≡ from_le_bytes w128 (put_mid 0 n (replicate 16 0) w) → v ≡ little (take 16 b)
little_padded b w n v m e h =
    let blank : List ℕ = replicate 16 0 in
    let zeros : List ℕ = drop n blank in
    let long : length w ≡ n = ap length e ∙ length-take-le n b (omega arith) in
    let room : length (w ++ zeros) ≤ 16 = omega (arith, length-append w zeros, length-drop n blank) in
    let pad : zeros ≡ replicate (16 - n) 0 = drop-replicate n 16 0 in
    h ∙ little_through (w ++ zeros) 15 room
    ∙ ap (λ z. little (w ++ z)) {y = replicate (16 - n) 0} pad
    ∙ little_zeros w (16 - n)
    ∙ ap little (e ∙ all)
  where
    all : take n b ≡ take 16 b
    all =
        elim (cases_lt (length b) 16) [
          | inl l ↦ take_all n b (omega arith) ∙ sym (take_all 16 b (omega arith))
          | inr l ↦ ap (λ k. take k b) (let k : n ≡ 16 = omega arith in k)
        ]

-- a number is small if few bytes write it
pub little_small :
    (b : List ℕ) → ((i : ℕ) → get_or b i 0 < 256) → little (take 16 b) < 256 ^ length b
little_small b h =
    let l = length-take 16 b in
    let low = little_lt (take 16 b) (λ i k. let t : i < 16 = omega arith in rw (get_or-take 16 b i 0 t) (h i)) in
    let p : 256 ^ length (take 16 b) ≤ 256 ^ length b = pow-le-pow_right (lit< tt) (omega arith) in
    omega arith

-- one byte more, behind those that are written
pub digits_more : (w n : ℕ) → digits (w + 1) n ≡ digits w n ++ (n / 256 ^ w % 256 ∷ [])
unfolding digits
digits_more zero n = let e : n / 256 ^ 0 ≡ n = omega arith in rw e
digits_more (suc w) n =
    let s : suc w + 1 ≡ suc (w + 1) = omega arith in
    let e : n / 256 / 256 ^ w ≡ n / 256 ^ suc w =
    div-div-eq-div-mul n 256 (256 ^ w) ∙ ap (λ q. n / q) (mul_comm 256 (256 ^ w) ∙ sym (pow-suc 256 w)) in
    rw (s, ← e) (ap (λ ys. n % 256 ∷ ys) (digits_more w (n / 256)))

pub shift_byte : (n i : ℕ) → n / 256 ^ i / 256 ≡ n / 256 ^ (i + 1)
shift_byte n i = rw add-one (div-div-eq-div-mul n (256 ^ i) 256 ∙ ap (λ q. n / q) (sym (pow-suc 256 i)))

-- the loop that writes: its start and its step
pub digits_start : (xs : List ℕ) (n : ℕ) → xs ≡ xs ++ digits 0 n
unfolding digits
digits_start xs n = sym (append-nil xs)

pub digits_push :
    (xs ys : List ℕ) (n i rest : ℕ) → rest ≡ n / 256 ^ i → ys ≡ (xs ++ digits i n) ++ (bit_and rest 255 ∷ []) →
    ys ≡ xs ++ digits (i + 1) n
digits_push xs ys n i rest e h =
    rw (digits_more i n)
    (h ∙ append_assoc xs (digits i n) (bit_and rest 255 ∷ [])
    ∙ ap (λ r. xs ++ (digits i n ++ (r ∷ []))) (and_mask rest 8 ∙ ap (λ r. r % 256) e))
