-- What is written is read, and what is read is written.
use Rattle.std.proofs.Common.{◌≡◌, ℕ, zero, suc, ◌+◌, ◌*◌, ◌^◌, ◌<◌, ◌≤◌, List, [], ◌∷◌, ◌++◌, length, get_or, take, drop, sym, refl, ap, ◌∙◌, subst, pow-suc, arith, lit<, length-append, pow-add}
use native.Mathlib.Nat.{pow-le-pow_right}
use Rattle.std.specs.List.{flat_map}
use Rattle.std.proofs.lemmas.List.{take_at, drop_at, take-take, drop-take, drop-drop, take-append-drop, nil_from_length, ext_get_or, length-take-le, length-drop, get_or-take, get_or-drop}
use Rattle.night.specs.declared.task.Task.{Task}
use Rattle.night.specs.Bytes.{little, digits}
use Rattle.night.specs.Format.{width, place, number_at, hours_in, count_in, units_in, row_in, task_in, task_bytes, night_bytes}
use Rattle.night.specs.Task.{blank_task, Fits, Sound}
use Rattle.night.specs.Theorems.{Bytes, ReadsBack, WritesBack}
use Rattle.night.proofs.Places.{place_next}
use Rattle.night.proofs.Digits.{length_digits, little_digits, digits_little}

-- parts of a list, one behind the other
take_add : (m n : ℕ) (xs : List ℕ) → take (m + n) xs ≡ take m xs ++ take n (drop m xs)
take_add m n xs =
    sym (take-append-drop m (take (m + n) xs))
    ∙ ap (λ ys. ys ++ drop m (take (m + n) xs)) (take-take m (m + n) xs (omega arith))
    ∙ ap (λ ys. take m xs ++ ys) (drop-take m n xs)

module _ (f : Task → List ℕ) (s : ℕ) (same : (t : Task) → length (f t) ≡ s) where
  -- tasks of the same length: how long they are together, and where each stands
  joined_length : (ts : List Task) → length (flat_map f ts) ≡ length ts * s
  joined_length [] = omega arith
  joined_length (t ∷ ts) = length-append (f t) (flat_map f ts) ∙ omega (arith, same t, joined_length ts)

  joined_part : (ts : List Task) (j : ℕ) → j < length ts → take s (drop (j * s) (flat_map f ts)) ≡ f (get_or ts j blank_task)
  joined_part [] j l = absurd (omega arith)
  joined_part (t ∷ ts) zero l =
      let z : 0 * s ≡ 0 = omega arith in rw z (take_at (f t) (flat_map f ts) s (same t))
  joined_part (t ∷ ts) (suc j) l =
      let z : suc j * s ≡ s + j * s = omega arith in
      rw (z, ← drop-drop (j * s) s (f t ++ flat_map f ts), drop_at (f t) (flat_map f ts) s (same t))
      (joined_part ts j (omega arith))

  -- bytes that are the tasks' one after the other
  joined_from :
      (ts : List Task) (b : List ℕ) → length b ≡ length ts * s →
      ((j : ℕ) → j < length ts → f (get_or ts j blank_task) ≡ take s (drop (j * s) b)) → flat_map f ts ≡ b
  joined_from [] b l h = sym (nil_from_length b (l ∙ omega arith))
  joined_from (t ∷ ts) b l h =
      let first : f t ≡ take s b = h 0 (omega arith) ∙ ap (λ k. take s (drop k b)) (let z : 0 * s ≡ 0 = omega arith in z) in
      let rest : flat_map f ts ≡ drop s b =
      joined_from ts (drop s b) (length-drop s b ∙ omega arith)
      (λ j k. h (suc j) (omega arith)
      ∙ ap (take s) (ap (λ k. drop k b) (let z : suc j * s ≡ s + j * s = omega arith in z) ∙ sym (drop-drop (j * s) s b))) in
      ap (λ xs. xs ++ flat_map f ts) first ∙ ap (λ xs. take s b ++ xs) rest ∙ take-append-drop s b

task_length : (w : ℕ) (t : Task) → length (task_bytes w t) ≡ 4 + w
task_length w t =
    length-append (digits 4 t.units) (digits w t.hours.bits)
    ∙ omega (arith, length_digits 4 t.units, length_digits w t.hours.bits)

-- a row of n bits fits into its bytes
row_room : (n a : ℕ) → a < 2 ^ n → a < 256 ^ width n
row_room n a l =
    let m : n ≤ 8 * width n = omega arith in
    let p : 2 ^ n ≤ 2 ^ (8 * width n) = pow-le-pow_right (lit< tt) m in
    omega (arith, p, bytes_bits (width n))
  where
    bytes_bits : (w : ℕ) → 256 ^ w ≡ 2 ^ (8 * w)
    bytes_bits zero = refl
    bytes_bits (suc w) =
        let e : 8 * suc w ≡ 8 * w + 8 = omega arith in
        rw (e, pow-add 2 (8 * w) 8) (omega (arith, pow-suc 256 w, bytes_bits w))

module _ (n : ℕ) (ts : List Task) (g : Sound n ts) (j : ℕ) (l : j < length ts) where
  -- the bytes of task j where it stands
  task_part : take (4 + width n) (drop (place (width n) j) (night_bytes n ts)) ≡ task_bytes (width n) (get_or ts j blank_task)
  task_part =
      ap (take (4 + width n)) (sym (drop-drop (j * (4 + width n)) 2 (night_bytes n ts)))
      ∙ joined_part (task_bytes (width n)) (4 + width n) (task_length (width n)) ts j l

  written_units : units_in (night_bytes n ts) j ≡ (get_or ts j blank_task).units
  written_units =
      ap little
      (sym (take-take 4 (4 + width n) (drop (place (width n) j) (night_bytes n ts)) (omega arith))
      ∙ ap (take 4) task_part
      ∙ take_at (digits 4 (get_or ts j blank_task).units) (digits (width n) (get_or ts j blank_task).hours.bits) 4 (length_digits 4 (get_or ts j blank_task).units))
      ∙ little_digits 4 (get_or ts j blank_task).units (omega (arith, (g.each j l).0))

  written_row : row_in (night_bytes n ts) j ≡ (get_or ts j blank_task).hours.bits
  written_row =
      ap little
      (ap (take (width n)) (sym (drop-drop 4 (place (width n) j) (night_bytes n ts)))
      ∙ sym (drop-take 4 (width n) (drop (place (width n) j) (night_bytes n ts)))
      ∙ ap (drop 4) task_part
      ∙ drop_at (digits 4 (get_or ts j blank_task).units) (digits (width n) (get_or ts j blank_task).hours.bits) 4 (length_digits 4 (get_or ts j blank_task).units))
      ∙ little_digits (width n) (get_or ts j blank_task).hours.bits (row_room n (get_or ts j blank_task).hours.bits (g.each j l).2)

  written_task : task_in (night_bytes n ts) j ≡ get_or ts j blank_task
  written_task =
      let f : ℕ → Task = λ k. record { units = k; hours = record { bits = row_in (night_bytes n ts) j } } in
      let h : ℕ → Task = λ k. record { units = (get_or ts j blank_task).units; hours = record { bits = k } } in
      ap f written_units ∙ ap h written_row

pub reads_back : ReadsBack
reads_back n ts g = (
  record {
    some = g.some;
    short = g.short;
    few = g.few;
    ends =
        let e = joined_length (task_bytes (width n)) (4 + width n) (task_length (width n)) ts in
        omega (arith, e);
    each = λ j l. subst (Fits n) (sym (written_task n ts g j l)) (g.each j l);
  },
  λ m us s. (
    s.hours,
    ext_get_or blank_task us ts s.count
        (λ j l. s.tasks j l ∙ written_task n ts g j (subst (λ k. j < k) s.count l)),
  ),
)

-- digits of what was read
read_digits :
    (b : List ℕ) (p w : ℕ) → Bytes b → p + w ≤ length b → digits w (number_at b p w) ≡ take w (drop p b)
read_digits b p w h l =
    let k : length (take w (drop p b)) ≡ w = length-take-le w (drop p b) (omega (arith, length-drop p b)) in
    let d =
    digits_little (take w (drop p b))
    (λ i m. let t : i < w = omega arith in rw (get_or-take w (drop p b) i 0 t, get_or-drop p b i 0) (h (p + i))) in
    subst (λ c. digits c (number_at b p w) ≡ take w (drop p b)) k d

read_task :
    (b : List ℕ) (j w : ℕ) → Bytes b → w ≡ width (hours_in b) → place w j + (4 + w) ≤ length b →
    task_bytes w (task_in b j) ≡ take (4 + w) (drop (place w j) b)
read_task b j w h e l =
    let p = place w j in
    rw (← e, read_digits b p 4 h (omega arith), read_digits b (p + 4) w h (omega arith), ← drop-drop 4 p b)
    (sym (take_add 4 w (drop p b)))

front_two : (b : List ℕ) → 2 ≤ length b → hours_in b ∷ (count_in b ∷ drop 2 b) ≡ b
front_two [] l = absurd (omega arith)
front_two (x ∷ []) l = absurd (omega arith)
front_two (x ∷ (y ∷ b)) l = refl

pub writes_back : WritesBack
writes_back b n ts h g s =
    let w = width (hours_in b) in
    let rows : flat_map (task_bytes w) ts ≡ drop 2 b =
    joined_from (task_bytes w) (4 + w) (task_length w) ts (drop 2 b)
    (length-drop 2 b ∙ omega (arith, g.ends, ap (λ k. k * (4 + w)) s.count))
    (λ j l. ap (task_bytes w) (s.tasks j l)
    ∙ read_task b j w h refl
    (let next = place_next w j (count_in b) (omega (arith, s.count)) in omega (arith, next, g.ends))
    ∙ ap (take (4 + w)) (sym (drop-drop (j * (4 + w)) 2 b))) in
    ap (λ k. k ∷ (length ts ∷ flat_map (task_bytes (width k)) ts)) s.hours
    ∙ ap (λ k. hours_in b ∷ (k ∷ flat_map (task_bytes w) ts)) s.count
    ∙ ap (λ xs. hours_in b ∷ (count_in b ∷ xs)) rows
    ∙ front_two b (omega (arith, g.ends))
