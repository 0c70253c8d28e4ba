use Rattle.std.proofs.Common.{◌≡◌, ◌≤◌, length}
use Rattle.fraction.specs.Sum.{size}
use Rattle.flow.specs.Lent.{layer, Layered}
use Rattle.flow.proofs.filling.Filling.look.Given as goal

abbrev pub invariant-loop-depth : goal.invariant-loop-depth
invariant-loop-depth l =
    (length l.layers ≡ 97) × (l.depth ≤ size 96 (layer l.layers l.depth))
    × Layered (length l.self.may.now) l.self.may.now l.self.net.now l.layers l.depth
