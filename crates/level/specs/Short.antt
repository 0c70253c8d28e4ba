-- The number and place of a refusal. Assumes nothing: this is a definition.
use Rattle.std.specs.Prelude.{ℕ}
use Rattle.level.specs.declared.short.Short.{Short}
use Rattle.level.specs.declared.short.Short.TheVariants.{Plan, Work}

abbrev pub code : Short → ℕ × ℕ
code Plan = (5, 0)
code Work = (5, 1)
