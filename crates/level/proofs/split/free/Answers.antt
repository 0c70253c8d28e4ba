use Rattle.std.proofs.Common.{◌+◌, ◌-◌, ◌∙◌, inl, inr, arith}
use Rattle.std.proofs.lemmas.List.{get_or-set_same, get_or-set_other}
use Rattle.std.proofs.lemmas.Bool.{cases_eq}
use Rattle.std.proofs.lemmas.Bool.Decides.{nat_tests}
use Rattle.sets.specs.Hours.{has}
use Rattle.level.proofs.Changes.{meets_low, freed_more, freed_past}
use Rattle.level.proofs.Crews.{rest_found}
use Rattle.level.proofs.split.free.Goals as goal

pub tasks-preserved-then-meets : goal.tasks-preserved-then-meets
tasks-preserved-then-meets c =
    let ts = c.args.tasks.now in
    let j = c.in-Some.j in
    let i = c.tasks.invariant in
    let f = rest_found i.1 j c.in-Some.ensures.steps in
    let y = f.member in
    let opens = c.if-meets.ensures ∙ meets_low ts (has c.args.u) j c.requires.ready f.below in (
      j + 1,
      f.rest,
      freed_past i.2 (omega (arith, f.reached))
          (λ k g h. elim (cases_eq k j) [
            | inl e ↦ rw e (grind (arith, nat_tests))
            | inr ne ↦ (let z = f.between k g (omega arith) in grind (arith, nat_tests))
          ]),
      λ k.
          let d = i.3 k in
          let z = f.between k in
          let r = f.reached in
          elim (cases_eq k j) [ inl e ↦ rw e (rw e at d ∙ grind (arith, nat_tests)) | inr ne ↦ grind (arith, nat_tests) ],
    )

pub tasks-preserved : goal.tasks-preserved
tasks-preserved c =
    let ts = c.args.tasks.now in
    let j = c.in-Some.j in
    let top = c.args.top in
    let i = c.tasks.invariant in
    let f = rest_found i.1 j c.in-Some.ensures.steps in
    let y = f.member in
    let l = f.below in
    let reached = f.reached in
    let few = c.requires.ready.few in
    let shut = c.if-meets.ensures ∙ meets_low ts (has c.args.u) j c.requires.ready l in
    let past = freed_past i.2 reached (λ k g h. let z = f.between k g h in grind (arith, nat_tests)) in
    let same = past.rest j (omega arith) in (
      j + 1,
      f.rest,
      freed_more ts top (has c.args.u) j c.args.of.now c.tasks.of _ past
          (get_or-set_same c.tasks.of j (top - 1) 0 (omega (arith, c.requires.labels, c.tasks.auto.of)) ∙ grind (arith, nat_tests))
          (λ k ne. get_or-set_other c.tasks.of j k (top - 1) 0 ne),
      λ k.
          let d = i.3 k in
          let z = f.between k in
          let r = c.insert-dense.ensures k in
          elim (cases_eq k j) [ inl e ↦ rw e (rw e at r ∙ grind (arith, nat_tests)) | inr ne ↦ r ∙ grind (arith, nat_tests) ],
    )
