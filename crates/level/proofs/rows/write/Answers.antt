use Rattle.std.proofs.Common.{◌≡◌, ℕ, ◌<◌, true, ◌&&◌, ltb, length, get_or, replicate, ◌∙◌, inl, inr, arith}
use Rattle.std.proofs.lemmas.List.{get_or-set_same, get_or-set_other, get_or-replicate, get_or_past, length-replicate}
use Rattle.std.proofs.lemmas.Bool.{cases_eq, cases_lt}
use Rattle.std.proofs.lemmas.Bool.Decides.{nat_tests}
use Rattle.sets.specs.declared.hours.Hours.{Hours}
use Rattle.sets.specs.Hours.{has}
use Rattle.level.proofs.rows.write.Goals as goal

zeros : (n k : ℕ) → get_or {A = ℕ} (replicate n 0) k 0 ≡ 0
zeros n k =
    elim (cases_lt k n) [
      | inl l ↦ get_or-replicate n k 0 0 l
      | inr g ↦ get_or_past {X = ℕ} (replicate n 0) k 0 (rw (length-replicate {A = ℕ} n 0) g)
    ]

-- the hours that are written lie in the row
low :
    (s : ℕ) (all marks below : Hours) → has all s ≡ true → has all s ≡ (has marks s && has below s) →
    has below s ≡ (ltb s 96 && ltb s 128) → s < 96
low s all marks below m e b = grind (arith, nat_tests)

pub hours-init : goal.hours-init
hours-init c = (
  λ k.
      let z = zeros (length c.args.row.now) k in
      rw (c.fill.ensures.after (λ y e. e)) (grind (arith, nat_tests)),
  λ k m. m,
)

pub hours-preserved : goal.hours-preserved
hours-preserved c =
    let s = c.in-Some.s in
    let t = c.in-Some.ensures.steps in
    let m = t.0.member in
    let y = c.hours.invariant.1 s m in
    let y' = rw c.into_iter-s-iterator.ensures.into_iter_gives at y in
    let l = low s _ _ _ y' (c.common-s-items.ensures s) (c.below.ensures s) in (
      λ k. elim (cases_eq k s) [
        | inl e ↦
            rw e
            (get_or-set_same c.hours.row s _ 0 (omega (arith, c.requires.long, c.fill.auto.self, c.hours.auto.row))
            ∙ (let r = t.1 s in grind (arith, nat_tests)))
        | inr ne ↦
            get_or-set_other c.hours.row s k _ 0 ne
            ∙ (c.hours.invariant.0 k ∙ (let r = t.1 k in grind (arith, nat_tests)))
      ],
      λ k h. c.hours.invariant.1 k (let r = t.1 k in grind (arith, nat_tests)),
    )
