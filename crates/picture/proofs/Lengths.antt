-- Laws of the lengths of bars.
use Rattle.std.proofs.Common.{◌≡◌, ℕ, ◌+◌, ◌-◌, ◌*◌, ◌/◌, ◌<◌, ◌≤◌, min, refl, ◌∙◌, mul_comm, div-lt_iff_lt-mul, mul-pos, one-mul, le-div_iff_mul-le, zero-mul, arith}
use native.Mathlib.Nat.{div-eq_of_lt}
use lib.Arith.{digits_div}
use Rattle.std.proofs.lemmas.Bool.{eq-eqb, ne_eqb}
use Rattle.picture.specs.Length.{Bar}

-- no largest load: no bar
pub bar_none : (w a b m d : ℕ) → 0 < b → m * b ≡ 0 → Bar w a b m d 0
bar_none w a b m d some e =
    let no : 0 < m → ⊥ = λ l. omega (arith, mul-pos l some) in
    record {
      value = rw (eq-eqb (m * b) 0 e);
      within = omega arith;
      nothing = λ z. refl;
      something = λ l n k. absurd (no n);
      whole = λ n f. absurd (no n);
    }

module _ (w a b m d : ℕ) (under : 0 < d) (over : m * b ≡ 0 → ⊥) where
  long : ℕ
  long = (a * d * w + (m * b - 1)) / (m * b)

  some : 0 < m * b
  some = omega arith

  long_none : a ≡ 0 → long ≡ 0
  unfolding long
  long_none z = div-eq_of_lt (rw (z, zero-mul d, zero-mul w) (omega (arith, some)))

  long_some : 0 < a → 0 < w → 0 < long
  unfolding long
  long_some l k =
      let more = mul-pos (mul-pos l under) k in
      (le-div_iff_mul-le some).1 (rw one-mul (omega (arith, more, some)))

  long_whole : a * d ≡ m * b → long ≡ w
  unfolding long
  long_whole e = rw (e, mul_comm (m * b) w) (digits_div w (omega (arith, some)))

  -- a bar of the length r, the shorter of the computed length and the whole
  pub bar_some : (r : ℕ) → r ≡ min w ((a * d * w + (m * b - 1)) / (m * b)) → Bar w a b m d r
  unfolding long
  bar_some r e = record {
    value = e ∙ rw (ne_eqb (m * b) 0 over);
    within = omega arith;
    nothing = λ z. omega (arith, long_none z);
    something = λ l n k. omega (arith, long_some l k);
    whole = λ n f. omega (arith, long_whole f);
  }

-- units between two lines, so that there are few
pub step_few : (top u k : ℕ) → 0 < u → top / u ≤ k → top < (k + 1) * u
step_few top u k l h = (div-lt_iff_lt-mul l).0 (omega arith)
