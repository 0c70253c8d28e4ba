-- Steps of a fill, one after another.
use Rattle.std.proofs.Common.{◌≡◌, ℕ, ◌<◌, ◌≤◌, Bool, true, List, length, get_or, ap, ◌∙◌, arith}
use Rattle.fraction.specs.Sum.{sum}
use Rattle.flow.specs.declared.filling.Filling.{Filling}
use Rattle.flow.specs.Filling.{waiting, Same, Ships, Shifts, Keeps, Improves}
use Rattle.flow.specs.declared.net.Net.{Net}
use Rattle.flow.specs.Lent.{left, Marks, Shifted, Sound, Better}
use Rattle.flow.proofs.Ends.{shipped_less}
use Rattle.flow.proofs.Steps.{shipped_steady, shifted_sound, shifted_steady, steady_then}

-- a move leaves a sound state better, whatever it is of
module _ {m : ℕ} {may : ℕ → ℕ → Bool} {net : Net} {work : List ℕ} (w : Sound m may net work) {net' : Net} {work' : List ℕ} {j d : ℕ}
    (lj : j < m) (marks : Marks m net.marks work → Marks m net'.marks work') where
  pub better_shifted :
      {t u : ℕ} → t < 96 → u < 96 → may j u ≡ true → Shifted net work net' work' j t u d → Better m may net work net' work'
  better_shifted lt lu can g =
      let same : sum m (left net') ≡ sum m (left net) = ap (λ x. sum m (λ i. get_or x i 0)) g.lefts in
      record {
        sound = shifted_sound m lj lt lu g may can w marks;
        steady = shifted_steady m lj lt lu g;
        less = omega (arith, same);
      }

same_then : {a b c : Filling} → Same a b → Same b c → Same a c
same_then p q =
    record { may = q.may ∙ p.may; hours = q.hours ∙ p.hours; net = q.net ∙ p.net; work = q.work ∙ p.work }

pub keeps_then : {a b c : Filling} → Keeps a b → Keeps b c → Keeps a c
keeps_then p q =
    let r = rw p.same.may at q.steady in record { same = same_then p.same q.same; steady = steady_then p.steady r }

pub improves_keeps : {old new : Filling} → Improves old new → Keeps old new
improves_keeps p = record { same = p.same; steady = p.better.steady }

-- a fill is sound, so that it is better where no more is left
improved :
    {old new : Filling} → Keeps old new → sum (length old.may.now) (left new.net.now) ≤ waiting old → Improves old new
improved {old} {new} p le =
    let sound = rw p.same.may at new.sound in
    record { same = p.same; better = record { sound = sound; steady = p.steady; less = le } }

pub improves_then : {a b c : Filling} → Improves a b → Improves b c → Improves a c
improves_then p q =
    let b = rw p.same.may at q.better in
    improved (keeps_then (improves_keeps p) (improves_keeps q)) (omega (arith, p.better.less, b.less))

module _ {old new : Filling} {j s d : ℕ} (lj : j < length old.may.now) (ls : s < 96) (g : Ships old new j s d) where
  pub ships_keeps : Keeps old new
  ships_keeps = record { same = g.same; steady = shipped_steady (length old.may.now) lj ls g.shipped }

  pub ships_improves : 0 < d → Improves old new
  ships_improves pos = improved ships_keeps (omega (arith, shipped_less (length old.may.now) lj pos g.shipped))

module _ {old new : Filling} {j t u d : ℕ} (lj : j < length old.may.now) (lt : t < 96) (lu : u < 96) (g : Shifts old new j t u d) where
  pub shifts_keeps : Keeps old new
  shifts_keeps = record { same = g.same; steady = shifted_steady (length old.may.now) lj lt lu g.shifted }

  pub shifts_improves : Improves old new
  shifts_improves =
      let m = length old.may.now in
      let same : sum m (left new.net.now) ≡ sum m (left old.net.now) = ap (λ x. sum m (λ i. get_or x i 0)) g.shifted.lefts in
      improved shifts_keeps (omega (arith, same))
