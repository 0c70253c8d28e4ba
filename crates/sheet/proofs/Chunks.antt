-- Bytes in chunks.
use Rattle.std.proofs.Common.{◌≡◌, ℕ, zero, suc, ◌+◌, ◌*◌, ◌/◌, ◌<◌, ◌≤◌, List, [], length, take, drop, get_or, refl, ap, ◌∙◌, arith}
use Rattle.std.specs.Simd.{first_chunks}
use Rattle.std.proofs.lemmas.List.{get_or-take, get_or-drop, length-drop, length-take-le}
use Rattle.sheet.specs.Layout.{written}
use Rattle.sheet.specs.Sheet.{word}

chunk_byte :
    (n k : ℕ) (xs : List ℕ) (j i : ℕ) → j < k → i < n → get_or (get_or (first_chunks n k xs) j []) i 0 ≡ get_or xs (j * n + i) 0
chunk_byte n zero xs j i l m = absurd (omega arith)
chunk_byte n (suc k) xs zero i l m = get_or-take n xs i 0 m ∙ ap (λ p. get_or xs p 0) (omega arith)
chunk_byte n (suc k) xs (suc j) i l m =
    chunk_byte n k (drop n xs) j i (omega arith) m
    ∙ (get_or-drop n xs (j * n + i) 0 ∙ ap (λ p. get_or xs p 0) (omega arith))

-- a part of a list: its length, and its elements
pub slice_long : (b : List ℕ) (p len : ℕ) → p + len ≤ length b → length (take len (drop p b)) ≡ len
slice_long b p len h = length-take-le len (drop p b) (omega (arith, length-drop p b))

pub slice_at : (b : List ℕ) (p len i : ℕ) → i < len → get_or (take len (drop p b)) i 0 ≡ get_or b (p + i) 0
slice_at b p len i l = get_or-take len (drop p b) i 0 l ∙ get_or-drop p b i 0

-- a chunk of eight bytes writes the number that they write where they stand
pub chunk_written :
    (b : List ℕ) (p len j : ℕ) → p + len ≤ length b → j * 8 + 8 ≤ len →
    written (first_chunks 8 (length (take len (drop p b)) / 8) (take len (drop p b))) j ≡ word b (p + j * 8)
unfolding word
chunk_written b p len j h l =
    let xs = take len (drop p b) in
    let long : length xs ≡ len = slice_long b p len h in
    let at : (i : ℕ) → i < 8 → get_or (get_or (first_chunks 8 (length xs / 8) xs) j []) i 0 ≡ get_or b (p + j * 8 + i) 0 =
    λ i m.
    chunk_byte 8 (length xs / 8) xs j i (omega (arith, long)) m
    ∙ (slice_at b p len (j * 8 + i) (omega arith) ∙ ap (λ q. get_or b q 0) (omega arith)) in
    let first : get_or (get_or (first_chunks 8 (length xs / 8) xs) j []) 0 0 ≡ get_or b (p + j * 8) 0 =
    at 0 (omega arith) ∙ ap (λ q. get_or b q 0) (omega arith) in
    rw (first, at 1 (omega arith), at 2 (omega arith), at 3 (omega arith), at 4 (omega arith), at 5 (omega arith), at 6 (omega arith), at 7 (omega arith))
    refl
