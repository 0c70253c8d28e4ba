use Rattle.std.proofs.Common.{◌*◌}
use Rattle.sheet_writer.specs.Written.{Kept, LoadsPut}
use Rattle.sheet_writer.proofs.writer.Content.put_loads.Given as goal

abbrev pub invariant-loop-s : goal.invariant-loop-s
invariant-loop-s l = LoadsPut l.s l.self.loads.now l.b × Kept 0 (l.s * 9) l.initial.b l.b
