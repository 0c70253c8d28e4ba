use Rattle.std.proofs.Common.{◌≡◌, [], ◌∷◌, vec_items}
use Rattle.text.specs.Piece.{words}
use Rattle.text.specs.TaskLine.{title}
use Rattle.text.proofs.task_line.read_name.Given as goal

abbrev pub invariant-loop-next : goal.invariant-loop-next
invariant-loop-next l = title (vec_items l.name) (l.word ∷ words l.next-iterator.0.now) ≡ title [] (words l.text)
