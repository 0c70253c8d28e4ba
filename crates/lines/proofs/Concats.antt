-- Laws of texts that are written piece by piece, and of tests at each index.
use Rattle.std.proofs.Common.{◌≡◌, ℕ, zero, suc, ◌+◌, ◌<◌, Bool, true, false, ◌&&◌, List, ◌++◌, sym, refl, ap, ◌∙◌, inl, inr, append_assoc, append-nil, add-one, arith}
use Rattle.std.proofs.lemmas.Bool.{and_from, and_left, and_right, cases_eq}
use Rattle.lines.specs.Lines.{concat, each}

-- nothing written yet
pub concat_none : (start : List ℕ) (f : ℕ → List ℕ) → start ≡ start ++ concat 0 f
unfolding concat
concat_none start f = sym (append-nil start)

-- one piece more
pub concat_more :
    (n : ℕ) (f : ℕ → List ℕ) (start was now piece : List ℕ) → was ≡ start ++ concat n f → now ≡ was ++ piece →
    piece ≡ f n → now ≡ start ++ concat (n + 1) f
unfolding concat
concat_more n f start was now piece h k e =
    rw add-one (k ∙ (ap (λ x. x ++ piece) h ∙ (append_assoc start (concat n f) piece ∙ ap (λ x. start ++ (concat n f ++ x)) e)))

pub each_none : (p : ℕ → Bool) → each 0 p ≡ true
unfolding each
each_none p = refl

-- one index more
pub each_more : (n : ℕ) (p : ℕ → Bool) → each n p ≡ true → p n ≡ true → each (n + 1) p ≡ true
unfolding each
each_more n p h k = rw add-one (and_from _ _ h k)

-- an index that fails
pub each_fails : (n : ℕ) (p : ℕ → Bool) (i : ℕ) → i < n → p i ≡ false → each n p ≡ false
unfolding each
each_fails zero p i l h = absurd (omega arith)
each_fails (suc n) p i l h =
    elim (cases_eq i n) [
      | inl e ↦ and_right _ _ (rw e at h)
      | inr ne ↦ and_left _ _ (each_fails n p i (omega arith) h)
    ]

-- equal pieces make equal texts
pub concat_same : (n : ℕ) (f g : ℕ → List ℕ) → ((i : ℕ) → i < n → f i ≡ g i) → concat n f ≡ concat n g
unfolding concat
concat_same zero f g h = refl
concat_same (suc n) f g h =
    ap (λ x. x ++ f n) (concat_same n f g (λ i l. h i (omega arith))) ∙ ap (λ x. concat n g ++ x) (h n (omega arith))

-- equal tests have equal answers
pub each_same : (n : ℕ) (p q : ℕ → Bool) → ((i : ℕ) → i < n → p i ≡ q i) → each n p ≡ each n q
unfolding each
each_same zero p q h = refl
each_same (suc n) p q h =
    ap (λ x. x && p n) (each_same n p q (λ i l. h i (omega arith))) ∙ ap (λ x. each n q && x) (h n (omega arith))
