-- Sets of hours, by their members. Assumes nothing: these are definitions.
use Rattle.std.specs.Prelude.{◌≡◌, ℕ, ◌<◌, Bool, true, false, ◌&&◌, nat_lt}
use Rattle.sets.specs.declared.hours.Hours.{Hours}
use Rattle.sets.specs.Bit.{bit}

-- hour i is in the set h
unfoldable pub has : Hours → ℕ → Bool
has h i = nat_lt i 128 && bit h.bits i

-- the empty set, which stands where a list of sets has ended
abbrev pub blank : Hours
blank = record { bits = 0 }

-- i is the lowest hour of h
pub record Lowest (h : Hours) (i : ℕ) : Type 0 where
  pub member : has h i ≡ true
  pub below : i < 128
  pub first : (k : ℕ) → k < i → has h k ≡ false
