use Rattle.std.proofs.Common.{refl, arith}
use Rattle.std.proofs.lemmas.List.{get_or-replicate}
use Rattle.std.proofs.lemmas.Bool.Decides.{nat_tests}
use Rattle.level.proofs.Begin.{begin_some, begin_none}
use Rattle.level.proofs.Crewed.{crews_start}
use Rattle.level.proofs.start.start.Goals as goal
use Rattle.level.proofs.start.start.Goals.{then-tasks-eq0, else-tasks-eq0}

pub returns : goal.returns
returns c =
    elim c.if-tasks-eq0.branch [
      | then-tasks-eq0 w ↦
          record {
            state = λ plan.
                rw w.result-is
                (begin_none c.args.tasks.now _ _ _ c.requires refl refl refl (λ j l. get_or-replicate 200 j 95 0 l)
                c.used.ensures w.if-tasks-eq0.true plan);
            crews =
                crews_start c.requires.few refl (omega (arith, w.result-is)) (λ j l. get_or-replicate 200 j 95 0 l) c.below.ensures;
            found = refl;
            top = let k = w.if-tasks-eq0.true in let e = w.result-is in grind (arith, nat_tests);
          }
      | else-tasks-eq0 w ↦
          record {
            state = λ plan.
                rw w.result-is
                (begin_some c.args.tasks.now _ _ _ c.requires refl refl refl (λ j l. get_or-replicate 200 j 95 0 l)
                c.used.ensures (omega (arith, w.if-tasks-eq0.false)) plan);
            crews =
                crews_start c.requires.few refl (omega (arith, w.result-is)) (λ j l. get_or-replicate 200 j 95 0 l) c.below.ensures;
            found = refl;
            top =
                let k = w.if-tasks-eq0.false in
                let e = w.result-is in
                grind (arith, nat_tests);
          }
    ]
