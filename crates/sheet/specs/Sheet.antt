-- What the bytes of a sheet say of a day: for each hour its load, as a numerator (eight bytes) and a denominator (one); the number of
-- groups (one), and for each a row of bits, one for each hour, in whole bytes; for each task its group (one) and, for each hour in which it
-- may be done, its amount (eight). Low bytes and low bits come first. Assumes nothing: these are definitions.
use Rattle.std.specs.Prelude.{ℕ, ◌+◌, ◌*◌, ◌/◌, ◌%◌, Bool, cond, List, nat_lt, slice_index}
use Rattle.fraction.specs.Sum.{sum, size}
use Rattle.even.specs.Day.{Day}
use Rattle.even.specs.Whole.{whole}
use Rattle.sets.specs.Bit.{bit}
use Rattle.night.specs.Format.{width}
use Rattle.sheet.specs.First.{first}

-- the number that the eight bytes from place p on write
unfoldable pub word : List ℕ → ℕ → ℕ
word b p =
    slice_index b p + slice_index b (p + 1) * 256 + slice_index b (p + 2) * 65536 + slice_index b (p + 3) * 16777216 + slice_index b (p + 4) * 4294967296
    + slice_index b (p + 5) * 1099511627776 + slice_index b (p + 6) * 281474976710656 + slice_index b (p + 7) * 72057594037927936

-- the load of hour s: its numerator, and its denominator
abbrev pub num : List ℕ → ℕ → ℕ
num b s = word b (s * 9)

abbrev pub den : List ℕ → ℕ → ℕ
den b s = slice_index b (s * 9 + 8)

-- how many groups there are
abbrev pub groups : Day → List ℕ → ℕ
groups y b = slice_index b (y.hours * 9)

-- hour s is one of group g
unfoldable pub within : Day → List ℕ → ℕ → ℕ → Bool
within y b g s = bit (slice_index b (y.hours * 9 + 1 + g * width y.hours + s / 8)) (s % 8)

-- how many bytes a task takes: its group, and an amount for each hour in which it may be done
abbrev pub row : Day → ℕ → ℕ
row y j = 1 + size y.hours (y.may j) * 8

-- where the bytes of task j begin, and where they end if there are j tasks
unfoldable pub start : Day → List ℕ → ℕ → ℕ
start y b j = y.hours * 9 + 1 + groups y b * width y.hours + sum j (row y)

-- the group of task j
abbrev pub group : Day → List ℕ → ℕ → ℕ
group y b j = slice_index b (start y b j)

-- the first hour of group g, or the number of hours where it has none
abbrev pub first_of : Day → List ℕ → ℕ → ℕ
first_of y b g = first y.hours (within y b g)

-- the denominator of the amounts of task j: that of the load of its group's first hour, or 0 where there is no such group or hour
unfoldable pub over : Day → List ℕ → ℕ → ℕ
over y b j =
    cond (nat_lt (group y b j) (groups y b)) (cond (nat_lt (first_of y b (group y b j)) y.hours) (den b (first_of y b (group y b j))) 0) 0

-- where the amount of task j in hour s stands
abbrev pub place : Day → List ℕ → ℕ → ℕ → ℕ
place y b j s = start y b j + 1 + size s (y.may j) * 8

-- the amount of task j in hour s; 0 where it may not be done
unfoldable pub amount : Day → List ℕ → ℕ → ℕ → ℕ
amount y b j s = cond (y.may j s) (word b (place y b j s)) 0

-- the same in parts of the whole; none where the task has no denominator
unfoldable pub plan : Day → List ℕ → ℕ → ℕ → ℕ
plan y b j s = amount y b j s * (whole / over y b j)
