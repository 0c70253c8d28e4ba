-- Laws of hours as people write them.
use Rattle.std.proofs.Common.{◌≡◌, ℕ, ◌+◌, ◌-◌, ◌*◌, ◌<◌, ◌≤◌, min, Bool, true, false, cond, eqb, List, [], ◌∷◌, Some, None, Ok, Err, Option, MatchOption, Bor, sym, refl, ap, ◌∙◌, inl, inr, arith}
use Rattle.std.proofs.lemmas.Bool.{cases_Bool}
use Rattle.std.proofs.lemmas.Bool.Decides.{nat_tests}
use Rattle.std.specs.Char.{is_ascii_digit}
use Rattle.std.specs.Option.{unwrap_or}
use Rattle.text.specs.declared.mistake.Fault.TheVariants.{NotHour}
use Rattle.text.specs.Number.{digits_on, numeral}
use Rattle.text.specs.Piece.{onto, pieces, Whole, Parted}
use Rattle.text.specs.Span.{from_to, between_dashes, spanned}
use Rattle.text.proofs.Pieces.{pieces_some, pieces_one}

abbrev dash : ℕ → Bool
dash b = eqb b 45

cond_none : (b : Bool) (x : Option ℕ) → x ≡ None → cond b x None ≡ None
cond_none true x e = e
cond_none false x e = refl

-- a text with a dash is no number
dashed : (n : ℕ) (bs x y : List ℕ) (ls : List (List ℕ)) → pieces dash bs ≡ x ∷ (y ∷ ls) → digits_on n bs ≡ None
dashed n [] x y ls h = let z : ◌≡◌ {A = ℕ} 0 1 = cc in absurd (omega arith)
dashed n (b ∷ bs) x y ls h =
    let s = pieces_some dash bs in
    let at = s.2 in
    elim (cases_Bool (dash b)) [
      | inl e ↦ let d : is_ascii_digit b ≡ false = grind (arith, nat_tests) in rw d
      | inr e ↦
          let g : onto b (s.0 ∷ s.1) ≡ x ∷ (y ∷ ls) = rw (e, s.2) at h in
          let more : s.1 ≡ y ∷ ls = cc in
          cond_none (is_ascii_digit b) _
          (dashed (min (n * 10 + (b - 48)) 4294967295) bs s.0 y ls (s.2 ∙ ap (λ l. s.0 ∷ l) more))
    ]

numeral_dashed : (bs x y : List ℕ) (ls : List (List ℕ)) → pieces dash bs ≡ x ∷ (y ∷ ls) → numeral bs ≡ None
numeral_dashed [] x y ls h = refl
numeral_dashed (b ∷ bs) x y ls h = dashed 0 (b ∷ bs) x y ls h

from_to_none : (n : ℕ) (x : Option ℕ) → from_to n x None ≡ Err NotHour
from_to_none n None = refl
from_to_none n (Some a) = refl

behind : (n : ℕ) (a b : List ℕ) (ls : List (List ℕ)) → pieces dash b ≡ ls → between_dashes n (a ∷ ls) ≡ from_to n (numeral a) (numeral b)
behind n a b [] e =
    let s = pieces_some dash b in
    let at = s.2 in
    let z : ◌≡◌ {A = ℕ} 0 1 = cc in absurd (omega arith)
behind n a b (t ∷ []) e = rw (pieces_one dash b t e)
behind n a b (t ∷ (u ∷ ls)) e = rw (numeral_dashed b t u ls e) (sym (from_to_none n (numeral a)))

-- the ends of a range are the numbers before and after its dash; an hour is both ends of its span
two_ends : (n : ℕ) (w a b : List ℕ) → pieces dash w ≡ a ∷ pieces dash b → spanned n w ≡ from_to n (numeral a) (numeral b)
two_ends n w a b e = rw e (behind n a b (pieces dash b) refl)

one_end : (n : ℕ) (w : List ℕ) → pieces dash w ≡ w ∷ [] → spanned n w ≡ from_to n (numeral w) (numeral w)
one_end n w e = rw e

pub halves :
    (n : ℕ) (w : Bor (List ℕ)) (o : Option (Bor (List ℕ) × Bor (List ℕ))) (p : Bor (List ℕ) × Bor (List ℕ)) →
    MatchOption o (Whole dash w.now) (λ x. Parted dash w.now x.0.now x.1.now) → p ≡ unwrap_or o (w, w) →
    spanned n w.now ≡ from_to n (numeral p.0.now) (numeral p.1.now)
halves n w None p h e = rw e (one_end n w.now h.one)
halves n w (Some x) p h e = rw e (two_ends n w.now x.0.now x.1.now h.more)

pub within : (n a b : ℕ) → a ≤ b → b < n → from_to n (Some a) (Some b) ≡ Ok (record { from = a; to = b })
within n a b l m = grind (arith, nat_tests)
