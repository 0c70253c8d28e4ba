-- One cell changes: what that does to the flow in lent memory.
use Rattle.std.proofs.Common.{◌≡◌, ℕ, ◌+◌, ◌*◌, ◌<◌, true, false, not, ◌&&◌, ◌||◌, eqb, ltb, ◌≢◌, ◌⊎◌, List, length, get_or, set, sym, refl, ap, ◌∙◌, inl, inr, arith, get_or-set_other, get_or-set_same}
use Rattle.std.proofs.lemmas.Bool.Decides.{nat_tests}
use Rattle.std.proofs.lemmas.Bool.{cases_eq, cases_Bool}
use Rattle.sets.specs.declared.hours.Hours.{Hours}
use Rattle.sets.specs.Hours.{has, blank}
use Rattle.flow.specs.Lent.{cell, Marks}

-- cells of rows of 96 stand at places of their own
pub apart : (i t j s : ℕ) → t < 96 → s < 96 → (i ≡ j → t ≡ s → ⊥) → i * 96 + t ≢ j * 96 + s
apart i t j s lt ls h e = h (omega arith) (omega arith)

pub cell_marked : (marks : List Hours) (work : List ℕ) (j s : ℕ) → has (get_or marks j blank) s ≡ true → cell marks work j s ≡ get_or work (j * 96 + s) 0
unfolding cell
cell_marked marks work j s h = rw h refl

pub cell_bare : (marks : List Hours) (work : List ℕ) (j s : ℕ) → has (get_or marks j blank) s ≡ false → cell marks work j s ≡ 0
unfolding cell
cell_bare marks work j s h = rw h refl

-- a cell that isn't 0 is marked
pub cell_some : (marks : List Hours) (work : List ℕ) (j s : ℕ) → 0 < cell marks work j s → has (get_or marks j blank) s ≡ true
cell_some marks work j s h =
    elim (cases_Bool (has (get_or marks j blank) s)) [
      | inl t ↦ t
      | inr f ↦ absurd (omega (arith, cell_bare marks work j s f))
    ]

-- equal marks and equal places make equal cells
pub cell_same :
    (marks marks' : List Hours) (work work' : List ℕ) (j s : ℕ) →
    has (get_or marks' j blank) s ≡ has (get_or marks j blank) s → get_or work' (j * 96 + s) 0 ≡ get_or work (j * 96 + s) 0 →
    cell marks' work' j s ≡ cell marks work j s
unfolding cell
cell_same marks marks' work work' j s h e = rw (h, e) refl

-- a write into hour s of row j leaves the other cells
pub write_other :
    (marks : List Hours) (work : List ℕ) (j s v : ℕ) → s < 96 → (i t : ℕ) → t < 96 → (i ≡ j → t ≡ s → ⊥) →
    get_or (set work (j * 96 + s) v) (i * 96 + t) 0 ≡ get_or work (i * 96 + t) 0
write_other marks work j s v ls i t lt h = get_or-set_other work (j * 96 + s) (i * 96 + t) v 0 (apart i t j s lt ls h)

-- the marks of a row with another set in its place
pub mark_at :
    (marks : List Hours) (j : ℕ) (x : Hours) → j < length marks → (t : ℕ) →
    has (get_or (set marks j x) j blank) t ≡ has x t
mark_at marks j x l t = ap (λ h. has h t) (get_or-set_same marks j x blank l)

pub mark_other :
    (marks : List Hours) (j : ℕ) (x : Hours) (i : ℕ) → (i ≡ j → ⊥) → (t : ℕ) →
    has (get_or (set marks j x) i blank) t ≡ has (get_or marks i blank) t
mark_other marks j x i h t = ap (λ g. has g t) (get_or-set_other marks j i x blank h)

-- a write into hour s of row j, where no other cell gets a mark, keeps the marks sound
pub marks_write :
    (m : ℕ) (marks marks' : List Hours) (work : List ℕ) (j s v : ℕ) → s < 96 → j * 96 + s < length work → Marks m marks work →
    ((i t : ℕ) → has (get_or marks' i blank) t ≡ true → ((i ≡ j) × (t ≡ s)) ⊎ (has (get_or marks i blank) t ≡ true)) →
    (has (get_or marks' j blank) s ≡ true → 0 < v) → Marks m marks' (set work (j * 96 + s) v)
marks_write m marks marks' work j s v ls lk w from pos =
    record {
      some = λ i t li h. elim (cases_eq i j) [
        | inl ei ↦ elim (cases_eq t s) [
          | inl et ↦
              (let p = pos (rw (ei, et) at h) in
              let q = get_or-set_same work (j * 96 + s) v 0 lk in
              let e : i * 96 + t ≡ j * 96 + s = rw (ei, et) refl in
              rw (e, q) p)
          | inr nt ↦ kept i t li h (λ a b. nt b)
        ]
        | inr ni ↦ kept i t li h (λ a b. ni a)
      ];
      low = λ i t li h. elim (from i t h) [ inl e ↦ omega (arith, e.1) | inr o ↦ w.low i t li o ];
    }
  where
    kept : (i t : ℕ) → i < m → has (get_or marks' i blank) t ≡ true → (i ≡ j → t ≡ s → ⊥) → 0 < get_or (set work (j * 96 + s) v) (i * 96 + t) 0
    kept i t li h ne =
        elim (from i t h) [
          | inl e ↦ absurd (ne e.0 e.1)
          | inr o ↦ omega (arith, w.some i t li o, write_other marks work j s v ls i t (w.low i t li o) ne)
        ]

-- the marks of row j with hour s, and without it: the set changes in hour s alone
module _ (marks : List Hours) (j s : ℕ) (x : Hours) (lj : j < length marks) (ls : s < 96) where
  abbrev Alone : Type 0
  Alone = (k : ℕ) → (k ≡ s → ⊥) → has x k ≡ has (get_or marks j blank) k

  module _ (e : (k : ℕ) → has x k ≡ (has (get_or marks j blank) k || (eqb k s && ltb k 128))) where
    pub insert_at : has (get_or (set marks j x) j blank) s ≡ true
    insert_at = mark_at marks j x lj s ∙ (let h = e s in grind (arith, nat_tests))

    pub insert_alone : Alone
    insert_alone k ne = let h = e k in grind (arith, nat_tests)

  module _ (e : (k : ℕ) → has x k ≡ (has (get_or marks j blank) k && not (eqb k s))) where
    pub remove_at : has (get_or (set marks j x) j blank) s ≡ false
    remove_at = mark_at marks j x lj s ∙ (let h = e s in grind (arith, nat_tests))

    pub remove_alone : Alone
    remove_alone k ne = let h = e k in grind (arith, nat_tests)

  module _ (e : Alone) where
    pub alone_other : (i t : ℕ) → (i ≡ j → t ≡ s → ⊥) → has (get_or (set marks j x) i blank) t ≡ has (get_or marks i blank) t
    alone_other i t ne =
        elim (cases_eq i j) [
          | inl ei ↦ rw ei (mark_at marks j x lj t ∙ e t (ne ei))
          | inr ni ↦ mark_other marks j x i ni t
        ]

    pub alone_from :
        (i t : ℕ) → has (get_or (set marks j x) i blank) t ≡ true → ((i ≡ j) × (t ≡ s)) ⊎ (has (get_or marks i blank) t ≡ true)
    alone_from i t h =
        elim (cases_eq i j) [
          | inl ei ↦ elim (cases_eq t s) [ inl et ↦ inl (ei, et) | inr nt ↦ inr (sym (alone_other i t (λ a b. nt b)) ∙ h) ]
          | inr ni ↦ inr (sym (alone_other i t (λ a b. ni a)) ∙ h)
        ]

-- the room in hour s changes
pub room_at : (rooms : List ℕ) (s v : ℕ) → s < length rooms → get_or (set rooms s v) s 0 ≡ v
room_at rooms s v l = get_or-set_same rooms s v 0 l

pub room_other : (rooms : List ℕ) (s v t : ℕ) → (t ≡ s → ⊥) → get_or (set rooms s v) t 0 ≡ get_or rooms t 0
room_other rooms s v t ne = get_or-set_other rooms s t v 0 ne
