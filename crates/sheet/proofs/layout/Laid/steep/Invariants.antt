use Rattle.std.proofs.Common.{◌+◌}
use Rattle.std.specs.Iterator.Adapters.{zip_first, zip_second}
use Rattle.std.specs.Slice.Iter.{iter_rest}
use Rattle.sets.specs.Hours.{has}
use Rattle.even.specs.DayOf.{day}
use Rattle.sheet.specs.Sheet.{start}
use Rattle.sheet.proofs.Steeps.{Looks}
use Rattle.sheet.proofs.layout.Laid.steep.Given as goal

abbrev pub invariant-loop-s : goal.invariant-loop-s
invariant-loop-s l =
    Looks l.self.bytes.now (start (day l.self.hours l.self.tasks.now) l.self.bytes.now l.j + 1) l.self.hours (has l.set)
    (has (zip_first l.s-iterator).rest) (iter_rest (zip_second l.s-iterator))
