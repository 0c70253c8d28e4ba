-- Laws of sets as bits.
use Rattle.std.proofs.Common.{◌≡◌, ℕ, ◌∙◌, sym, min, arith}
use Rattle.std.specs.Int.{bit_at}
use Rattle.std.specs.Int.Bits.{bit_and}
use Rattle.std.proofs.lemmas.Nat.Bits.{bit_at_and, bit_at-lt}
use Rattle.oracle.specs.Sets.{Among}

-- what is in two sets is in the second
pub and_among_r : (a b : ℕ) → Among (bit_and a b) b
and_among_r a b i h =
    let m : min (bit_at a i) (bit_at b i) ≡ 1 = sym (bit_at_and a b i) ∙ h in omega (arith, bit_at-lt b i, m)

-- and where the first is within a third, in that
pub and_among : (a b c : ℕ) → Among a c → Among (bit_and a b) c
and_among a b c f i h =
    let m : min (bit_at a i) (bit_at b i) ≡ 1 = sym (bit_at_and a b i) ∙ h in f i (omega (arith, bit_at-lt a i, m))

-- a set that the other leaves as it is
pub among_of : (a b : ℕ) → bit_and a b ≡ a → Among a b
among_of a b e i h = and_among_r a b i (rw e h)
