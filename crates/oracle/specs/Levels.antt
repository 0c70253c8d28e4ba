-- Levels of the slow ways. Assumes nothing: these are definitions.
use Rattle.std.specs.Prelude.{◌≡◌, ◌*◌}
use Rattle.oracle.specs.declared.slow.Level.{Level}

-- what stands where a list of levels has ended
abbrev pub none : Level
none = record { units = 0; hours = 0 }

-- units over hours are the same fraction
abbrev pub Same : Level → Level → Type 0
Same a b = a.units * b.hours ≡ b.units * a.hours
