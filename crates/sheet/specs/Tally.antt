-- A sum of amounts over any denominators, in parts of the whole. Assumes nothing: this is a definition.
use Rattle.std.specs.Prelude.{ℕ, ◌+◌, ◌*◌, ◌/◌}
use Rattle.even.specs.Whole.{whole}
use Rattle.sheet.specs.Limbs.{value}
use Rattle.sheet.specs.declared.tally.Tally.{Tally}

-- the parts that a tally holds: those in its words, and its run over one denominator
abbrev pub parts : Tally → ℕ
parts t = value t.sum + t.run * (whole / t.over)
