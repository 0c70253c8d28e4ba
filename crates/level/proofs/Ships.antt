-- From a flow of the tasks gathered to a flow of the part.
use Rattle.std.proofs.Common.{◌≡◌, ℕ, ◌*◌, ◌≤◌, Bool, true, false, cond, List, length, get_or, take, replicate, Some, Option, ap, ◌∙◌, subst, MatchOption}
use Rattle.std.proofs.lemmas.List.{get_or-take, get_or-replicate, length-take-le}
use Rattle.fraction.specs.declared.exact.Fraction.{Fraction}
use Rattle.fraction.specs.Sum.{size}
use Rattle.sets.specs.declared.hours.Hours.{Hours}
use Rattle.night.specs.declared.task.Task.{Task}
use Rattle.sets.specs.Hours.{has, blank}
use Rattle.night.specs.Task.{units, may}
use Rattle.flow.specs.Flow.{Flow, Largest, row}
use Rattle.flow.specs.Flow as F
use Rattle.flow.specs.declared.net.Net.{Net}
use Rattle.flow.specs.declared.net.Filled.{Filled}
use Rattle.flow.specs.declared.net.Filled.TheVariants.{Whole, Cut}
use Rattle.flow.specs.Lent.{permits, within, flow, fitting}
use Rattle.flow.specs.Outcome.{Outcome}
use Rattle.level.specs.Crew.{Manned}
use Rattle.level.specs.Cut.{bears, Levels}
use Rattle.level.specs.Gathered.{Gathered}
use Rattle.level.specs.Ship.{Shipped}
use Rattle.level.proofs.Gather.{gather_below, gathered_flow, gathered_whole, gathered_largest, gathered_short}

-- the lists of the tasks gathered have their permissions and supplies
gathered :
    (ts : List Task) (t : ℕ → Bool) (hours : Hours) (p q k : ℕ) (rows : List Hours) (supply : List ℕ) →
    Manned ts t q (length ts) rows supply → k ≡ size (length ts) t →
    Gathered (length ts) 96 t (may ts) (permits (take k rows)) (λ j. units ts j * q) (λ i. get_or (take k supply) i 0) (bears (has hours) p)
    (within hours (replicate 96 p))
gathered ts t hours p q k rows supply w e =
    record {
      allowed = λ j s i l y.
          ap (λ h. has h s) (get_or-take k rows (size j t) blank (rw e (gather_below (length ts) t j i y)) ∙ w.allowed j i y);
      supplied = λ j i y.
          get_or-take k supply (size j t) 0 (rw e (gather_below (length ts) t j i y)) ∙ w.supplied j i y;
      borne = λ s l. ap (λ v. cond (has hours s) v 0) (get_or-replicate 96 s p 0 l);
    }

-- what a flow of the first k says, where they are read as a part of their lists
pub poured :
    (k k' : ℕ) → k' ≡ k → (rows : List Hours) (supply : List ℕ) (hours : Hours) (p : ℕ) (net : Net) (work : List ℕ) (o : Option Filled)
    (r : Filled) (n : ℕ) → k ≤ length supply → o ≡ Some r →
    MatchOption o (fitting (length (take k' rows)) (length (take k' supply)) n ≡ false)
    (λ x. (fitting (length (take k' rows)) (length (take k' supply)) n ≡ true)
    × Outcome (length (take k' supply)) (permits (take k' rows)) (λ i. get_or (take k' supply) i 0) (within hours (replicate 96 p)) (flow net work) x) →
    Outcome k (permits (take k rows)) (λ i. get_or (take k supply) i 0) (within hours (replicate 96 p)) (flow net work) r
poured k k' e rows supply hours p net work o r n l s h =
    let P : ℕ → Type 0 = λ v. fitting (length (take v rows)) (length (take v supply)) n ≡ false in
    let Q : ℕ → Filled → Type 0 = λ v x. (fitting (length (take v rows)) (length (take v supply)) n ≡ true)
    × Outcome (length (take v supply)) (permits (take v rows)) (λ i. get_or (take v supply) i 0) (within hours (replicate 96 p)) (flow net work) x in
    let a : MatchOption o (P k) (Q k) = subst (λ v. MatchOption o (P v) (Q v)) e h in
    let b : Q k r = subst (λ v. MatchOption v (P k) (Q k)) s a in
    subst (λ m. Outcome m (permits (take k rows)) (λ i. get_or (take k supply) i 0) (within hours (replicate 96 p)) (flow net work) r)
    (length-take-le k supply l) b.1

pub shipped :
    (ts : List Task) (t : ℕ → Bool) (hours : Hours) (level : Fraction) (k : ℕ) (rows : List Hours) (supply : List ℕ) (net : Net)
    (work : List ℕ) (r : Filled) → Levels (length ts) 96 (units ts) t (has hours) level.num level.den →
    Manned ts t level.den (length ts) rows supply → k ≡ size (length ts) t →
    Outcome k (permits (take k rows)) (λ i. get_or (take k supply) i 0) (within hours (replicate 96 level.num)) (flow net work) r →
    Shipped ts t (has hours) level net work r
shipped ts t hours level k rows supply net work Whole lev w e f =
    let g = gathered ts t hours level.num level.den k rows supply w e in
    record {
      level = lev;
      flow =
          gathered_flow g (flow net work)
          (subst
          (λ v. Flow v 96 (permits (take k rows)) (λ i. get_or (take k supply) i 0) (within hours (replicate 96 level.num)) (flow net work))
          e f.0);
      whole = gathered_whole g (flow net work) (subst (λ v. F.Whole v 96 (λ i. get_or (take k supply) i 0) (flow net work)) e f.1);
    }
shipped ts t hours level k rows supply net work (Cut u) lev w e f =
    let g = gathered ts t hours level.num level.den k rows supply w e in
    let s = gathered_short g (flow net work) f.1.0 (rw e at f.1.1) f.1.2 in
    record {
      level = lev;
      largest =
          gathered_largest g (flow net work) (has u)
          (subst
          (λ v. Largest v 96 (permits (take k rows)) (λ i. get_or (take k supply) i 0) (within hours (replicate 96 level.num)) (flow net work) (has u))
          e f.0);
      task = s.0;
      within = s.1;
      short = s.2;
    }
