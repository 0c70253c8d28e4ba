use Rattle.std.proofs.Common.{◌≡◌, ℕ, ◌+◌, ◌*◌, ◌≤◌, length, get_or}
use Rattle.sheet.specs.Limbs.{base, upto}
use Rattle.sheet.proofs.limbs.add_times.Given as goal

abbrev pub invariant-loop-i : goal.invariant-loop-i
invariant-loop-i l =
    (length l.to ≡ 8) × (upto l.i l.to + l.carry * base l.i ≡ upto l.i l.initial.to + l.by * upto l.i l.what)
    × ((k : ℕ) → l.i ≤ k → get_or l.to k 0 ≡ get_or l.initial.to k 0)
