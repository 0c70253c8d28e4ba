use Rattle.std.proofs.Common.{arith}
use Rattle.sheet.proofs.Places.{load_in}
use Rattle.sheet.proofs.layout.Laid.is_lower.Goals as goal

pub word_at-requires : goal.word_at-requires
word_at-requires c = omega (arith, load_in _ _ c.args.self.now.laid c.args.t c.requires.first)

pub bounds-self-s : goal.bounds-self-s
bounds-self-s c = omega (arith, load_in _ _ c.args.self.now.laid c.args.s c.requires.second)

pub word_at-requires-2 : goal.word_at-requires-2
word_at-requires-2 c = omega (arith, load_in _ _ c.args.self.now.laid c.args.s c.requires.second)

pub bounds-self-t : goal.bounds-self-t
bounds-self-t c = omega (arith, load_in _ _ c.args.self.now.laid c.args.t c.requires.first)
