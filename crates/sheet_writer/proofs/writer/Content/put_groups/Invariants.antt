use Rattle.std.proofs.Common.{◌+◌, ◌*◌}
use Rattle.night.specs.Format.{width}
use Rattle.night.specs.Night.{hours_of}
use Rattle.sheet_writer.specs.Written.{GroupsPut, Kept}
use Rattle.sheet_writer.proofs.writer.Content.put_groups.Given as goal

abbrev pub invariant-loop-g : goal.invariant-loop-g
invariant-loop-g l =
    GroupsPut l.g (hours_of l.self.night.now) l.p l.self.groups.now l.b
    × Kept l.p (l.p + l.g * width (hours_of l.self.night.now)) l.initial.b l.b
