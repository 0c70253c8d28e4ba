use Rattle.std.proofs.Common.{◌≡◌, ℕ, ◌+◌, ◌*◌, ◌<◌, length, get_or}
use Rattle.sheet.specs.Limbs.{base, upto, value}
use Rattle.sheet.proofs.limbs.divided.Given as goal

abbrev pub invariant-loop-k : goal.invariant-loop-k
invariant-loop-k l =
    (length l.out ≡ 8) × (l.rest < l.by)
    × (value l.what ≡ upto l.k l.what + l.rest * base l.k + l.by * value l.out)
    × ((i : ℕ) → i < l.k → get_or l.out i 0 ≡ 0)
