-- The sets of tasks of the parts that wait, from step to step.
use Rattle.std.proofs.Common.{◌≡◌, ℕ, ◌<◌, ◌≤◌, Bool, ◌&&◌, ltb, List, length, get_or, sym, ap, ◌∙◌, subst, inl, inr, arith}
use Rattle.std.proofs.lemmas.Bool.{cases_eq}
use Rattle.std.proofs.lemmas.Bool.Decides.{nat_tests}
use Rattle.fraction.specs.declared.exact.Fraction.{Fraction}
use Rattle.night.specs.declared.task.Task.{Task}
use Rattle.level.specs.declared.parts.Parts.{Parts}
use Rattle.level.specs.Change.{Split, Taken}
use Rattle.level.specs.Crew.{CrewOf, Crews}
use Rattle.level.specs.Parts.{label}
use Rattle.level.specs.TaskSet.{holds, nobody}

-- all tasks wait as one part
pub crews_start :
    {n : ℕ} {p : Parts} → n ≤ 200 → length p.sets ≡ 96 → 95 ≤ p.top → ((j : ℕ) → j < 200 → label p.of j ≡ 95) →
    ((j : ℕ) → holds (get_or p.sets 95 nobody) j ≡ (ltb j n && ltb j 256)) → Crews n p
crews_start {n} {p} few long top labels all =
    record {
      sets = long;
      each = λ i g l.
          let e : i ≡ 95 = omega arith in
          rw e (record { tasks = λ j. let k = labels j in all j ∙ grind (arith, nat_tests) });
    }

-- the part on top is taken
pub crews_take :
    {n : ℕ} {level : Fraction} {p p' : Parts} → Crews n p → p.found ≤ p.top → Taken n level p p' → Crews n p'
crews_take {n} {level} {p} {p'} w le d =
    record {
      sets = ap length d.sets ∙ w.sets;
      each = λ i g l.
          let old = w.each i (omega (arith, d.top)) l in
          subst (λ xs. CrewOf n p'.of i (get_or xs i nobody)) (sym d.sets)
          (record {
            tasks = λ j.
                let a = d.tasks j in
                let t = d.top in
                old.tasks j ∙ grind (arith, nat_tests);
          });
    }

-- it is split: no task has the label of its dense side before
pub crews_split :
    {ts : List Task} {u : ℕ → Bool} {p p' : Parts} → Crews (length ts) p → p.top < 96 →
    ((j : ℕ) → j < length ts → label p.of j ≡ p'.top → ⊥) → Split ts u p p' → Crews (length ts) p'
crews_split {ts} {u} {p} {p'} w lt free d =
    record {
      sets = d.sets;
      each = λ i g l.
          let t = d.top in
          let top = w.each p.top (omega arith) lt in
          elim (cases_eq i p'.top) [
            | inl e ↦
                rw e
                (record {
                  tasks = λ j.
                      let a = d.tasks j in
                      let f = free j in
                      let o = top.tasks j in
                      d.dense_set j ∙ grind (arith, nat_tests);
                })
            | inr ne ↦
                elim (cases_eq i p.top) [
                  | inl e ↦
                      rw e
                      (record {
                        tasks = λ j.
                            let a = d.tasks j in
                            let o = top.tasks j in
                            d.other_set j ∙ grind (arith, nat_tests);
                      })
                  | inr ne' ↦
                      (let old = w.each i (omega arith) l in
                      record {
                        tasks = λ j.
                            let a = d.tasks j in
                            let o = old.tasks j in
                            ap (λ x. holds x j) (d.rest_sets i ne' ne) ∙ (o ∙ grind (arith, nat_tests));
                      })
                ]
          ];
    }
