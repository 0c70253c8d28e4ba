-- Laws of what is drawn.
use Rattle.std.proofs.Common.{◌≡◌, ℕ, zero, suc, ◌+◌, ◌-◌, ◌*◌, ◌<◌, ◌≤◌, true, cond, List, [], ◌∷◌, ◌++◌, length, get_or, Some, Option, ◌⊎◌, inl, inr, sym, refl, ap, ◌∙◌, unwrap_or, add-one, position, arith}
use Rattle.std.proofs.lemmas.List.{append_assoc}
use Rattle.std.proofs.lemmas.Bool.{leb-true, le-leb}
use Rattle.std.proofs.lemmas.Iterator.Adapters.{position_from-zero}
use Rattle.std.specs.List.{position_from, fold, reduce}
use Rattle.std.specs.Cmp.{ranked}
use Rattle.std.specs.Ordering.{MatchOrdering, max_by_ordering}
use Rattle.std.specs.declared.cmp.Ordering.{Ordering}
use Rattle.std.specs.declared.cmp.Ordering.TheVariants.{Less, Equal, Greater}
use Rattle.fraction.specs.declared.exact.Fraction.{Fraction}
use Rattle.fraction.specs.Fraction.{at_most}
use Rattle.fraction.specs.Order.{fraction_cmp}
use Rattle.fraction.specs.OrderLaws.{cross_trans}
use Rattle.sets.specs.declared.hours.Hours.{Hours}
use Rattle.sets.specs.Hours.{has}
use Rattle.picture.specs.declared.drawn.Drawn.{Drawn}
use Rattle.picture.specs.Bars.{Largest, mark_of, bar_line, bar_at}
use Rattle.picture.specs.Columns.{bar_text, column_at}
use Rattle.picture.specs.Drawn.{num_at, den_at, group_at, fill_at}
use Rattle.picture.specs.Length.{bar_length}

-- the larger of two loads, as `max` picks it
abbrev pub larger : Fraction → Fraction → Fraction
larger a b = max_by_ordering (fraction_cmp a b) a b

larger_picks :
    (a b : Fraction) (o : Ordering) → MatchOrdering o (a.num * b.den < b.num * a.den) (a.num * b.den ≡ b.num * a.den) (b.num * a.den < a.num * b.den) →
    (let m = max_by_ordering o a b in
    (a.num * m.den ≤ m.num * a.den) × (b.num * m.den ≤ m.num * b.den) × ((m ≡ a) ⊎ (m ≡ b)))
larger_picks a b Less h = (omega (arith, h), omega arith, inr refl)
larger_picks a b Equal h = (omega (arith, h), omega arith, inr refl)
larger_picks a b Greater h = (omega arith, omega (arith, h), inl refl)

largest_none : (m d : ℕ) → m ≡ 0 → Largest [] m d
largest_none m d z = record { above = λ k l. absurd (omega arith); among = λ l. absurd (omega arith) }

-- two loads before others, of which the larger, c, stands for both
under : (x c m : Fraction) → x.num * c.den ≤ c.num * x.den → at_most c.num c.den m.num m.den ≡ true → at_most x.num x.den m.num m.den ≡ true
under x c m h t = le-leb _ _ (cross_trans x.num x.den c.num c.den m.num m.den c.some h (leb-true _ _ t))

both_under :
    (ls : List Fraction) (a b c m : Fraction) → a.num * c.den ≤ c.num * a.den → b.num * c.den ≤ c.num * b.den →
    Largest (c ∷ ls) m.num m.den → (k : ℕ) → k < length (a ∷ b ∷ ls) →
    at_most (num_at (a ∷ b ∷ ls) k) (den_at (a ∷ b ∷ ls) k) m.num m.den ≡ true
both_under ls a b c m ha hb s zero l = under a c m ha (s.above 0 (omega arith))
both_under ls a b c m ha hb s (suc zero) l = under b c m hb (s.above 0 (omega arith))
both_under ls a b c m ha hb s (suc (suc k)) l = s.above (suc k) (omega arith)

one_of :
    (ls : List Fraction) (a b c m : Fraction) (k : ℕ) → (c ≡ a) ⊎ (c ≡ b) → k < length (c ∷ ls) →
    num_at (c ∷ ls) k ≡ m.num → den_at (c ∷ ls) k ≡ m.den →
    (i : ℕ) × (i < length (a ∷ b ∷ ls)) × (num_at (a ∷ b ∷ ls) i ≡ m.num) × (den_at (a ∷ b ∷ ls) i ≡ m.den)
one_of ls a b c m zero (inl e) l en ed =
    (0, omega arith, ap (λ (f : Fraction). f.num) (sym e) ∙ en, ap (λ (f : Fraction). f.den) (sym e) ∙ ed)
one_of ls a b c m zero (inr e) l en ed =
    (1, omega arith, ap (λ (f : Fraction). f.num) (sym e) ∙ en, ap (λ (f : Fraction). f.den) (sym e) ∙ ed)
one_of ls a b c m (suc k) which l en ed = (suc (suc k), omega arith, en, ed)

largest_more :
    (ls : List Fraction) (a b c m : Fraction) → a.num * c.den ≤ c.num * a.den → b.num * c.den ≤ c.num * b.den →
    (c ≡ a) ⊎ (c ≡ b) → Largest (c ∷ ls) m.num m.den → Largest (a ∷ b ∷ ls) m.num m.den
largest_more ls a b c m ha hb which s =
    record {
      above = both_under ls a b c m ha hb s;
      among = λ l. (let r = s.among l in one_of ls a b c m r.0 which r.1 r.2 r.3);
    }

one_itself : (a : Fraction) (k : ℕ) → k < 1 → at_most (num_at (a ∷ []) k) (den_at (a ∷ []) k) a.num a.den ≡ true
one_itself a zero l = le-leb _ _ (omega arith)
one_itself a (suc k) l = absurd (omega arith)

-- the largest of a load and of others, picked one after the other
largest_fold : (ls : List Fraction) (a : Fraction) → Largest (a ∷ ls) (fold larger a ls).num (fold larger a ls).den
largest_fold [] a =
    record {
      above = one_itself a;
      among = λ _. (0, omega arith, refl, refl);
    }
largest_fold (b ∷ ls) a =
    let picked = larger_picks a b (fraction_cmp a b) (ranked (a.num * b.den) (b.num * a.den) _ refl) in
    largest_more ls a b (larger a b) (fold larger (larger a b) ls) picked.0 picked.1 picked.2 (largest_fold ls (larger a b))

pub largest_is :
    (ls : List Fraction) (r : Option Fraction) (none m : Fraction) → none.num ≡ 0 → r ≡ reduce larger ls →
    m ≡ unwrap_or r none → Largest ls m.num m.den
largest_is [] r none m z e u = rw (u, e) (largest_none none.num none.den z)
largest_is (a ∷ ls) r none m z e u = rw (u, e) (largest_fold ls a)

-- a load read with 0 / 1 beside it for an hour that has none
pub load_is :
    (ls : List Fraction) (k : ℕ) (none load : Fraction) → none.num ≡ 0 → none.den ≡ 1 →
    load ≡ get_or ls k none → (load.num ≡ num_at ls k) × (load.den ≡ den_at ls k)
load_is [] k none load en ed e = rw e (en, ed)
load_is (x ∷ ls) zero none load en ed e = rw e (refl, refl)
load_is (x ∷ ls) (suc k) none load en ed e = load_is ls k none load en ed e

-- the first group that has an hour is at the first place whose hours have it
group_from : (gs : List Hours) (g s : ℕ) → group_at g gs s ≡ position_from (λ h. has h s) g gs
unfolding group_at
group_from [] g s = refl
group_from (h ∷ gs) g s =
    ap (λ r. cond (has h s) (Some g) r) (group_from gs (suc g) s)
    ∙ ap (λ i. cond (has h s) (Some g) (position_from (λ k. has k s) i gs)) (sym (add-one g))

pub group_is : (gs : List Hours) (s : ℕ) → position (λ h. has h s) gs ≡ group_at 0 gs s
group_is gs s = position_from-zero (λ h. has h s) gs ∙ sym (group_from gs 0 s)

-- a line that is written in three parts
pub three_parts :
    (o o' o'' o''' p q d b t s : List ℕ) → p ≡ q → o' ≡ o ++ (p ++ (d ++ b)) → o'' ≡ o' ++ t → o''' ≡ o'' ++ s →
    o''' ≡ o ++ (q ++ (d ++ (b ++ (t ++ s))))
three_parts o o' o'' o''' p q d b t s w e f h = rw (h, f, e, w) (simp append_assoc)

-- the line of an hour, made of its mark, its load and its bar
pub line_is :
    (d : Drawn) (m n s : ℕ) (g : Option ℕ) (mark : List ℕ) (a b long : ℕ) → mark ≡ mark_of g → g ≡ group_at 0 d.groups.now s →
    a ≡ num_at d.loads.now s → b ≡ den_at d.loads.now s → long ≡ bar_length 52 a b m n →
    bar_line s mark long a b ≡ bar_at d m n s
line_is d m n s g mark a b long em eg ea eb el = rw (em, eg, el, ea, eb)

-- the bar of an hour, made of its place, its load and its filling
pub column_is :
    (d : Drawn) (c m n s : ℕ) (g : Option ℕ) (x y wide high fill a b : ℕ) → x ≡ 201 + s * c → wide + 2 ≡ c → y + high ≡ 400 →
    fill ≡ fill_at g → g ≡ group_at 0 d.groups.now s → a ≡ num_at d.loads.now s → b ≡ den_at d.loads.now s →
    high ≡ bar_length 260 a b m n → bar_text s x y wide high fill a b ≡ column_at d c m n s
column_is d c m n s g x y wide high fill a b ex ew ey ef eg ea eb eh =
    let w : wide ≡ c - 2 = omega arith in
    let v : y ≡ 400 - high = omega arith in
    rw (ex, w, v, ef, eg, eh, ea, eb)
