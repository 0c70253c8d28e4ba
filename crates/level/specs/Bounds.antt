-- How dense the tasks of a part are. A part is a set t of tasks with the set h of hours that is theirs. Assumes nothing: these are definitions.
-- The hours that some tasks reach are never computed: a set q of tasks is taken with any set e of hours that it keeps to.
use Rattle.std.specs.Prelude.{◌≡◌, ℕ, ◌+◌, ◌*◌, ◌<◌, ◌≤◌, Bool, true}
use Rattle.fraction.specs.Sum.{part, size, both}

-- tasks of the part that q picks use hours of the part only in e
abbrev pub Shut : ℕ → ℕ → (ℕ → ℕ → Bool) → (t h q e : ℕ → Bool) → Type 0
Shut m n may t h q e =
    (j s : ℕ) → j < m → s < n → t j ≡ true → q j ≡ true → h s ≡ true → may j s ≡ true → e s ≡ true

-- tasks of the part need less than a / b units for each hour that they keep to
abbrev pub Upper : ℕ → ℕ → (ℕ → ℕ → Bool) → (ℕ → ℕ) → (t h : ℕ → Bool) → ℕ → ℕ → Type 0
Upper m n may units t h a b =
    (q e : ℕ → Bool) → Shut m n may t h q e → 0 < size n (both h e) →
    part m (both t q) units * b < size n (both h e) * a

-- without tasks that keep to some hours, the part still needs at least a / b units for each other hour
abbrev pub Lower : ℕ → ℕ → (ℕ → ℕ → Bool) → (ℕ → ℕ) → (t h : ℕ → Bool) → ℕ → ℕ → Type 0
Lower m n may units t h a b =
    (q e : ℕ → Bool) → Shut m n may t h q e →
    part m (both t q) units * b + size n h * a ≤ part m t units * b + size n (both h e) * a
