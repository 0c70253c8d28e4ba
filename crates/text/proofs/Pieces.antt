-- Laws of text in pieces.
use Rattle.std.proofs.Common.{◌≡◌, ℕ, Option, Bor, zero, suc, ◌<◌, ◌≤◌, Bool, true, false, List, [], ◌∷◌, length, get_or, take, drop, Some, None, not, position, sym, refl, ap, ◌∙◌, inl, inr, arith, length-drop, one-add}
use Rattle.std.proofs.lemmas.List.Quantifiers.{position-Some}
use Rattle.std.proofs.lemmas.List.Sums.{prefix_len_passes, prefix_len-le-length}
use Rattle.std.proofs.lemmas.Str.Ascii.{trim_ascii_start_is}
use Rattle.std.proofs.lemmas.Bool.{cases_Bool, or_right, not-true}
use Rattle.std.proofs.lemmas.Bool.Decides.{nat_tests}
use Rattle.std.specs.Char.{is_ascii_whitespace}
use Rattle.std.specs.Iterator.{Drains, Yields, YieldsFirstRef}
use Rattle.std.specs.List.{last_or, prefix_len, position_or_len}
use Rattle.std.specs.Option.{unwrap_or}
use Rattle.std.specs.Str.{IsTrimAsciiStart}
use Rattle.text.specs.declared.piece.Words.{Words}
use Rattle.text.specs.Piece.{onto, pieces, filled, words, holds, after, Whole, Parted}
use Rattle.text.specs.TaskLine.{last_of}

-- a text with no mark is one piece
pub pieces_none : (p : ℕ → Bool) (bs : List ℕ) → ((k : ℕ) → k < length bs → p (get_or bs k 0) ≡ false) → pieces p bs ≡ bs ∷ []
pieces_none p [] h = refl
pieces_none p (b ∷ bs) h = rw (h 0 (omega arith), pieces_none p bs (λ k l. h (suc k) (omega arith)))

-- the first piece ends at the first mark
pub pieces_at :
    (p : ℕ → Bool) (bs : List ℕ) (n : ℕ) → n < length bs → ((k : ℕ) → k < n → p (get_or bs k 0) ≡ false) →
    p (get_or bs n 0) ≡ true → pieces p bs ≡ take n bs ∷ pieces p (drop (suc n) bs)
pieces_at p [] n l h e = absurd (omega arith)
pieces_at p (b ∷ bs) zero l h e = rw e
pieces_at p (b ∷ bs) (suc n) l h e =
    rw (h 0 (omega arith), pieces_at p bs n (omega arith) (λ k m. h (suc k) (omega arith)) e)

-- a text with no mark
pub whole : (p : ℕ → Bool) (bs : List ℕ) → ((k : ℕ) → k < length bs → p (get_or bs k 0) ≡ false) → Whole p bs
whole p [] h = record { one = refl; none = refl; past = refl }
whole p (b ∷ bs) h =
    let w = whole p bs (λ k l. h (suc k) (omega arith)) in
    let no = h 0 (omega arith) in
    record { one = pieces_none p (b ∷ bs) h; none = rw (no, w.none); past = rw (no, w.past) }

holds_at : (p : ℕ → Bool) (bs : List ℕ) (n : ℕ) → n < length bs → p (get_or bs n 0) ≡ true → holds p bs ≡ true
holds_at p [] n l e = absurd (omega arith)
holds_at p (b ∷ bs) zero l e = rw e
holds_at p (b ∷ bs) (suc n) l e = or_right (p b) _ (holds_at p bs n (omega arith) e)

after_at :
    (p : ℕ → Bool) (bs : List ℕ) (n : ℕ) → n < length bs → ((k : ℕ) → k < n → p (get_or bs k 0) ≡ false) →
    p (get_or bs n 0) ≡ true → after p bs ≡ drop (suc n) bs
after_at p [] n l h e = absurd (omega arith)
after_at p (b ∷ bs) zero l h e = rw e
after_at p (b ∷ bs) (suc n) l h e =
    rw (h 0 (omega arith)) (after_at p bs n (omega arith) (λ k m. h (suc k) (omega arith)) e)

-- a byte that stands nowhere, and one that stands first at n
pub never : (p : ℕ → Bool) (bs : List ℕ) → position p bs ≡ None → Whole p bs
never p bs e =
    let all : length bs ≤ position_or_len p bs = grind (arith, nat_tests, e) in
    whole p bs (λ k l. not-true _ (prefix_len_passes (λ x. not (p x)) bs k 0 (omega (arith, all, l))))

pub parted : (p : ℕ → Bool) (bs : List ℕ) (n : ℕ) → position p bs ≡ Some n → Parted p bs (take n bs) (drop (suc n) bs)
parted p bs n e =
    let at = position-Some p bs n 0 e in
    record {
      more = pieces_at p bs n at.0 at.2 at.1;
      some = holds_at p bs n at.0 at.1;
      past = after_at p bs n at.0 at.2 at.1;
      shorter = omega (arith, at.0, length-drop (suc n) bs);
    }

-- blanks before the first word do not count
filled_skip : (p : ℕ → Bool) (bs : List ℕ) → filled (pieces p (drop (prefix_len p bs) bs)) ≡ filled (pieces p bs)
filled_skip p [] = refl
filled_skip p (b ∷ bs) = elim (cases_Bool (p b)) [
  | inl e ↦ rw (e, one-add) (filled_skip p bs)
  | inr e ↦ rw e (rw e refl)
]

-- what stands after the blanks begins with none
first_filled : (p : ℕ → Bool) (bs : List ℕ) (c : ℕ) (cs : List ℕ) → drop (prefix_len p bs) bs ≡ c ∷ cs → p c ≡ false
first_filled p [] c cs h = let z : ◌≡◌ {A = ℕ} 0 1 = cc in absurd (omega arith)
first_filled p (b ∷ bs) c cs h = elim (cases_Bool (p b)) [
  | inl e ↦ first_filled p bs c cs (rw (e, one-add) at h)
  | inr e ↦ let both : b ∷ bs ≡ c ∷ cs = rw e at h in let same : b ≡ c = cc in rw (sym same) e
]

-- the first piece, and the others
first_piece :
    (p : ℕ → Bool) (bs : List ℕ) →
    (ls : List (List ℕ)) × (pieces p bs ≡ take (position_or_len p bs) bs ∷ ls)
    × (filled (pieces p (drop (position_or_len p bs) bs)) ≡ filled ls)
first_piece p [] = ([], refl, refl)
first_piece p (b ∷ bs) =
    let rest = first_piece p bs in
    let at = rest.1 in
    elim (cases_Bool (p b)) [
      | inl e ↦ (pieces p bs, rw e refl, rw e (rw e refl))
      | inr e ↦ (rest.0, rw (e, one-add, at) refl, rw (e, one-add) rest.2)
    ]

filled_cons : (y l : List ℕ) (x : ℕ) (ls : List (List ℕ)) → y ≡ x ∷ l → filled (y ∷ ls) ≡ y ∷ filled ls
filled_cons y l x ls e = rw e refl

-- the first place that passes, or the length
first_place : (p : ℕ → Bool) (bs : List ℕ) (n : ℕ) → n ≡ unwrap_or (position p bs) (length bs) → n ≡ position_or_len p bs
first_place p bs n e = let short = prefix_len-le-length (λ b. not (p b)) bs in grind (arith, nat_tests)

pub place_within : (p : ℕ → Bool) (bs : List ℕ) (n : ℕ) → n ≡ unwrap_or (position p bs) (length bs) → n ≤ length bs
place_within p bs n e = omega (arith, first_place p bs n e, prefix_len-le-length (λ b. not (p b)) bs)

-- the words of a text of blanks, and of one with something else
pub words_none : (bs t : List ℕ) → IsTrimAsciiStart bs t → length t ≡ 0 → words bs ≡ []
words_none bs [] h z =
    sym (rw (sym (trim_ascii_start_is bs [] h)) at (filled_skip is_ascii_whitespace bs))
words_none bs (b ∷ t) h z = absurd (omega arith)

pub words_some :
    (bs t w r : List ℕ) (n : ℕ) → IsTrimAsciiStart bs t → (length t ≡ 0 → ⊥) →
    n ≡ unwrap_or (position is_ascii_whitespace t) (length t) → w ≡ take n t → r ≡ drop n t → words bs ≡ w ∷ words r
words_some bs [] w r n h z e front back = absurd (z refl)
words_some bs (b ∷ t) w r n h z e front back =
    let blank = is_ascii_whitespace in
    let here = trim_ascii_start_is bs (b ∷ t) h in
    let skip : filled (pieces blank (b ∷ t)) ≡ words bs = rw (sym here) at (filled_skip blank bs) in
    let first = first_piece blank (b ∷ t) in
    let no : blank b ≡ false = first_filled blank bs b t (sym here) in
    let one : take (position_or_len blank (b ∷ t)) (b ∷ t) ≡ b ∷ take (position_or_len blank t) t = rw (no, one-add) refl in
    rw (front, back, first_place blank (b ∷ t) n e)
    (sym skip ∙ ap filled first.1 ∙ filled_cons _ _ b first.0 one
    ∙ ap (λ v. take (position_or_len blank (b ∷ t)) (b ∷ t) ∷ v) (sym first.2))

-- there is a first piece
pub pieces_some : (p : ℕ → Bool) (bs : List ℕ) → (x : List ℕ) × (ls : List (List ℕ)) × (pieces p bs ≡ x ∷ ls)
pieces_some p [] = ([], [], refl)
pieces_some p (b ∷ bs) =
    let s = pieces_some p bs in
    elim (cases_Bool (p b)) [ inl e ↦ ([], pieces p bs, rw e) | inr e ↦ (b ∷ s.0, s.1, rw (e, s.2)) ]

-- a text in one piece is that piece
pub pieces_one : (p : ℕ → Bool) (bs x : List ℕ) → pieces p bs ≡ x ∷ [] → x ≡ bs
pieces_one p [] x h = cc
pieces_one p (b ∷ bs) x h =
    let s = pieces_some p bs in
    let at = s.2 in
    elim (cases_Bool (p b)) [
      | inl e ↦
          let g : [] ∷ pieces p bs ≡ x ∷ [] = rw e at h in
          let z : ◌≡◌ {A = ℕ} 0 1 = cc in absurd (omega arith)
      | inr e ↦
          let g : onto b (s.0 ∷ s.1) ≡ x ∷ [] = rw (e, s.2) at h in
          let none : s.1 ≡ [] = cc in
          let same = pieces_one p bs s.0 (s.2 ∙ ap (λ l. s.0 ∷ l) none) in cc
    ]

-- there are at most as many marks as bytes
pub pieces_few : (p : ℕ → Bool) (bs : List ℕ) → length (pieces p bs) ≤ suc (length bs)
pieces_few p [] = omega arith
pieces_few p (b ∷ bs) =
    let s = pieces_some p bs in
    let few : length (s.0 ∷ s.1) ≤ suc (length bs) = rw s.2 at (pieces_few p bs) in
    elim (cases_Bool (p b)) [
      | inl e ↦ rw (e, s.2) (omega arith)
      | inr e ↦ rw (e, s.2) (omega arith)
    ]

-- the last item of a run over words
last_after :
    (b : Bor (List ℕ)) (o : Option (Bor (List ℕ))) (xs : List (Bor (List ℕ))) (s t u : Words) →
    Yields (YieldsFirstRef (λ w. words w.0.now)) s xs t → YieldsFirstRef (λ w. words w.0.now) t None u →
    (unwrap_or (last_or o xs) b).now ≡ last_of (unwrap_or o b).now (words s.0.now)
last_after b o [] s t u all end = rw (all, end.0) refl
last_after b o (x ∷ xs) s t u all end = rw all.1 (last_after b (Some x) xs all.0 t u all.2 end)

pub last_read :
    (s : Words) (o : Option (Bor (List ℕ))) (b r : Bor (List ℕ)) →
    (xs : List (Bor (List ℕ))) × Drains (YieldsFirstRef (λ w. words w.0.now)) s xs × (o ≡ last_or None xs) →
    r ≡ unwrap_or o b → b.now ≡ [] → r.now ≡ last_of [] (words s.0.now)
last_read s o b r ran is none =
    ap (λ x. x.now) (is ∙ ap (λ x. unwrap_or x b) ran.2) ∙ last_after b None ran.0 s ran.1.1.0 ran.1.0 ran.1.1.1 ran.1.1.2
    ∙ ap (λ x. last_of x (words s.0.now)) none
