use Rattle.std.proofs.Common.{◌≡◌, ◌+◌, true, false, not, ◌&&◌, ltb, [], ◌∷◌, ◌++◌, length, get_or, take, sym, refl, ap, ◌∙◌, inl, inr, arith}
use lib.ListN.{get_or-replicate}
use Rattle.std.proofs.lemmas.List.{get_or-take, length-append, length-drop, length-take-le}
use Rattle.std.proofs.lemmas.Bool.{cases_Bool, le-ltb}
use Rattle.std.proofs.lemmas.Bool.Decides.{nat_tests}
use Rattle.sets.specs.Hours.{has, blank}
use Rattle.level.specs.Load.{group_at, level_at}
use Rattle.level.specs.Parts.{nought}
use Rattle.level.proofs.Firsts.{group_more, level_more, level_none, rest_step}
use Rattle.level.proofs.load.loads.Goals as goal

pub groups-init : goal.groups-init
groups-init c =
    let hs = c.args.parts.now.hours in
    let lv = c.args.parts.now.levels in (
      λ s l.
          let e = get_or-replicate 96 s c.zero-all.result nought l in
          let f = level_none 0 hs lv s (λ i k. absurd (omega arith)) in
          record {
            num = ap (λ x. x.num) e ∙ (c.zero-all.ensures.0 ∙ sym (ap (λ x. x.num) f));
            den = ap (λ x. x.den) e ∙ (c.zero-all.ensures.1 ∙ sym (ap (λ x. x.den) f));
          },
      λ s.
          let z : ltb (group_at 0 hs s) 0 ≡ false = le-ltb _ 0 (omega arith) in
          c.below-idle.ensures s ∙ grind (arith, nat_tests),
      rw c.into_iter-hours-iterator.ensures.into_iter_gives (rw c.zip-hours-items.ensures.first c.iter.ensures.rest),
      rw c.into_iter-hours-iterator.ensures.into_iter_gives c.zip-hours-items.ensures.second.0,
      omega arith,
    )

pub groups-preserved : goal.groups-preserved
groups-preserved c =
    let hs = c.args.parts.now.hours in
    let lv = c.args.parts.now.levels in
    let found = c.args.parts.now.found in
    let i = c.groups.invariant in
    let g = length c.groups.yielded in
    let some = c.in-Some.ensures.steps in
    let a = rest_step (take found hs) _ _ g c.in-Some.hours.now blank i.2 some.0 in
    let b = rest_step lv _ _ g c.in-Some.level.now nought i.3 some.1 in
    let long = length-take-le found hs (omega (arith, c.requires.found)) in
    let hours : get_or hs g blank ≡ c.in-Some.hours.now = sym (get_or-take found hs g blank (omega (arith, a.0, long))) ∙ a.1 in
    let more : length (c.groups.yielded ++ (c.in-Some.hours, c.in-Some.level) ∷ []) ≡ g + 1 = length-append c.groups.yielded _ in
    rw more (
      λ s l.
          let set = c.common-set.ensures s in
          let mine = ap (λ x. has x s) hours in
          let idle = i.1 s in
          let next = level_more g hs lv s in
          elim (cases_Bool (has c.common-set.result s)) [
            | inl y ↦
                (let t : (not (ltb (group_at g hs s) g) && has (get_or hs g blank) s) ≡ true = grind (arith, nat_tests) in
                let e : get_or c.raise.new.all s nought ≡ c.in-Some.level.now = c.raise.ensures s ∙ rw y refl in
                let f : level_at (g + 1) hs lv s ≡ get_or lv g nought = next ∙ rw t refl in
                let same = e ∙ (sym b.1 ∙ sym f) in
                record { num = ap (λ x. x.num) same; den = ap (λ x. x.den) same })
            | inr z ↦
                (let t : (not (ltb (group_at g hs s) g) && has (get_or hs g blank) s) ≡ false = grind (arith, nat_tests) in
                let e : get_or c.raise.new.all s nought ≡ get_or c.groups.all s nought = c.raise.ensures s ∙ rw z refl in
                let f : level_at (g + 1) hs lv s ≡ level_at g hs lv s = next ∙ rw t refl in
                let was = i.0 s l in
                record {
                  num = ap (λ x. x.num) e ∙ (was.num ∙ sym (ap (λ x. x.num) f));
                  den = ap (λ x. x.den) e ∙ (was.den ∙ sym (ap (λ x. x.den) f));
                })
          ],
      λ s.
          let set = c.common-set.ensures s in
          let mine = ap (λ x. has x s) hours in
          let idle = i.1 s in
          let next = group_more g hs lv s in
          c.minus-idle.ensures s ∙ grind (arith, nat_tests),
      a.2,
      b.2,
      omega (arith, a.0, long),
    )

pub returns : goal.returns
returns c s l =
    let found = c.args.parts.now.found in
    let i = c.groups.invariant in
    let g = length c.groups.yielded in
    let hs = c.args.parts.now.hours in
    let lv = c.args.parts.now.levels in
    let long = length-take-le found hs (omega (arith, c.requires.found)) in
    let hours = ap length i.2 ∙ length-drop g (take found hs) in
    let levels = ap length i.3 ∙ length-drop g lv in
    let all : g ≡ found =
    elim c.in-None.ensures.steps [
      | inl a ↦ (let none = a.1.0 in omega (arith, i.4, hours, long, none))
      | inr b ↦ (let none = b.1.0 in omega (arith, i.4, levels, none, c.requires.found))
    ] in
    rw all at (i.0 s l)
