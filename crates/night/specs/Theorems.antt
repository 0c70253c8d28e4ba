-- Theorems about nights and their bytes, over the definitions that the contracts cite.
use Rattle.std.specs.Prelude.{◌≡◌, ℕ, ◌+◌, ◌*◌, ◌/◌, ◌%◌, ◌^◌, ◌<◌, true, List, length, slice_index}
use Rattle.fraction.specs.Sum.{sum}
use Rattle.night.specs.declared.task.Task.{Task}
use Rattle.sets.specs.Bit.{bit}
use Rattle.night.specs.Format.{WellFormed, Says, width, place, hours_in, count_in, task_in, night_bytes}
use Rattle.sets.specs.Hours.{has}
use Rattle.fraction.specs.Limits.{max_hours}
use Rattle.night.specs.Refusal.{First}
use Rattle.night.specs.Task.{Sound, may, units}

-- each element is a byte
abbrev pub Bytes : List ℕ → Type 0
Bytes b = (i : ℕ) → slice_index b i < 256

-- the bytes that a night is written as are well-formed, and say that night and no other
abbrev pub ReadsBack : Type 0
ReadsBack =
    (n : ℕ) (ts : List Task) → Sound n ts →
    WellFormed (night_bytes n ts)
    × ((m : ℕ) (us : List Task) → Says (night_bytes n ts) m us → (m ≡ n) × (us ≡ ts))

-- the night that bytes say is written as these bytes
abbrev pub WritesBack : Type 0
WritesBack =
    (b : List ℕ) (n : ℕ) (ts : List Task) → Bytes b → WellFormed b → Says b n ts → night_bytes n ts ≡ b

-- hour i of a task is bit i of its row: bit i % 8 of byte i / 8
abbrev pub RowBits : Type 0
RowBits =
    (b : List ℕ) → Bytes b → WellFormed b → (j i : ℕ) → j < count_in b → i < hours_in b →
    has (task_in b j).hours i ≡ bit (slice_index b (place (width (hours_in b)) j + 4 + i / 8)) (i % 8)

-- the hours of a task of a night are hours of the night
abbrev pub Within : Type 0
Within = (n : ℕ) (ts : List Task) → Sound n ts → (j k : ℕ) → j < length ts → may ts j k ≡ true → k < n

-- bytes have at most one first refusal, and well-formed ones have none
abbrev pub OneRefusal : Type 0
OneRefusal =
    (b : List ℕ) (n p : ℕ) → First b n p →
    ((m q : ℕ) → First b m q → (n ≡ m) × (p ≡ q)) × (WellFormed b → ⊥)

-- the units of a night, times the most hours, stay below 2 ^ 63
abbrev pub Small : Type 0
Small = (n : ℕ) (ts : List Task) → Sound n ts → sum (length ts) (units ts) * max_hours < 2 ^ 63
