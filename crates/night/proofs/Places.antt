-- Laws of the places of tasks, and of numbers at places.
use Rattle.std.proofs.Common.{◌≡◌, ℕ, ◌+◌, ◌-◌, ◌^◌, ◌<◌, ◌≤◌, List, length, take, drop, ap, ◌∙◌, mul-le-mul_right, arith}
use Rattle.std.proofs.lemmas.List.{take_all, length-take-le, length-drop}
use Rattle.sets.specs.declared.hours.Hours.{Hours}
use Rattle.night.specs.declared.task.Task.{Task}
use Rattle.night.specs.Bytes.{little}
use Rattle.night.specs.Format.{width, place, number_at, hours_in, end_in, units_in, row_in, task_in}
use Rattle.night.specs.Reading.{Headed}

-- later tasks stand behind earlier ones
pub place_mono : (w i j : ℕ) → i ≤ j → place w i ≤ place w j
place_mono w i j l = omega (arith, mul-le-mul_right (4 + w) l)

pub place_next : (w i j : ℕ) → i < j → place w i + (4 + w) ≤ place w j
place_next w i j l = let s : i + 1 ≤ j = omega arith in omega (arith, mul-le-mul_right (4 + w) s)

-- the bytes of a task of a night are there
pub task_there :
    (b : List ℕ) (n m j : ℕ) → Headed b n m → j < m → place (width n) j + (4 + width n) ≤ length b
task_there b n m j h l =
    let e : place (width n) m ≡ end_in b = rw (h.hours, h.count) in
    omega (arith, place_next (width n) j m l, h.ends, e)

-- the number in a part of so many bytes
pub part_number :
    (b : List ℕ) (p w : ℕ) → p + w ≤ length b → w ≤ 16 → little (take 16 (take w (drop p b))) ≡ number_at b p w
part_number b p w l m =
    let k : length (take w (drop p b)) ≡ w = length-take-le w (drop p b) (omega (arith, length-drop p b)) in
    ap little (take_all 16 (take w (drop p b)) (omega arith))

-- a number of four bytes
pub small_part : (b : List ℕ) (p n : ℕ) → p + 4 ≤ length b → n < 256 ^ length (take (p + 4 - p) (drop p b)) → n < 2 ^ 32
small_part b p n l h =
    let four : p + 4 - p ≡ 4 = omega arith in
    let k : length (take 4 (drop p b)) ≡ 4 = length-take-le 4 (drop p b) (omega (arith, length-drop p b)) in
    let s = rw (four, k) at h in omega arith

-- a task that is made of what was read
task_made :
    (u v x y : ℕ) (h : Hours) → u ≡ x → h.bits ≡ v → v ≡ y →
    ◌≡◌ {A = Task} (record { units = u; hours = h }) (record { units = x; hours = record { bits = y } })
task_made u v x y h p q r =
    let f : ℕ → Task = λ k. record { units = k; hours = h } in
    let g : ℕ → Task = λ k. record { units = x; hours = record { bits = k } } in
    ap f p ∙ ap g (q ∙ r)

pub task_read :
    (b : List ℕ) (n m j at end u v : ℕ) (h : Hours) → Headed b n m → j < m → at ≡ place (width n) j →
    end ≡ place (width n) (j + 1) → u ≡ little (take 16 (take (at + 4 - at) (drop at b))) →
    v ≡ little (take 16 (take (end - (at + 4)) (drop (at + 4) b))) → h.bits ≡ v →
    ◌≡◌ {A = Task} (record { units = u; hours = h }) (task_in b j)
task_read b n m j at end u v h s l p e x y z =
    let there = task_there b n m j s l in
    let few : width n ≤ 12 = omega (arith, s.short) in
    let four : at + 4 - at ≡ 4 = omega arith in
    let rest : end - (at + 4) ≡ width n = omega arith in
    let q : at ≡ place (width (hours_in b)) j = p ∙ ap (λ k. place (width k) j) s.hours in
    let units : u ≡ units_in b j =
    x ∙ ap (λ k. little (take 16 (take k (drop at b)))) four ∙ part_number b at 4 (omega arith) (omega arith)
    ∙ ap (λ k. number_at b k 4) q in
    let row : v ≡ row_in b j =
    y ∙ ap (λ k. little (take 16 (take k (drop (at + 4) b)))) rest
    ∙ part_number b (at + 4) (width n) (omega arith) (omega arith)
    ∙ ap (λ k. number_at b (k + 4) (width n)) q
    ∙ ap (λ k. number_at b (place (width (hours_in b)) j + 4) (width k)) s.hours in
    task_made u v (units_in b j) (row_in b j) h units z row
