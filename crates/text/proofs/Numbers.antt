-- Laws of numbers as people write them.
use Rattle.std.proofs.Common.{◌≡◌, ℕ, ◌+◌, ◌-◌, ◌*◌, ◌<◌, ◌≤◌, min, true, false, List, length, get_or, drop, Some, None, sym, ◌∙◌, arith}
use Rattle.std.proofs.lemmas.List.{at_drop_more, at_drop_all}
use Rattle.std.specs.Char.{is_ascii_digit}
use Rattle.text.specs.Number.{digits_on, numeral}

-- a byte that is no digit: the word is no number
pub digit_none :
    (w : List ℕ) (n i : ℕ) → i < length w → digits_on n (drop i w) ≡ numeral w → is_ascii_digit (get_or w i 0) ≡ false →
    None ≡ numeral w
digit_none w n i l h e = sym (at_drop_more (digits_on n) w i 0 l ∙ rw e) ∙ h

-- a digit more
pub digit_more :
    (w : List ℕ) (n m i : ℕ) → i < length w → digits_on n (drop i w) ≡ numeral w → is_ascii_digit (get_or w i 0) ≡ true →
    m ≡ min (min (n * 10) 4294967295 + (get_or w i 0 - 48)) 4294967295 → digits_on m (drop (i + 1) w) ≡ numeral w
digit_more w n m i l h e s =
    let t : m ≡ min (n * 10 + (get_or w i 0 - 48)) 4294967295 = omega arith in
    rw t (sym (at_drop_more (digits_on n) w i 0 l ∙ rw e) ∙ h)

-- the end of the word
pub digit_all : (w : List ℕ) (n i : ℕ) → length w ≤ i → digits_on n (drop i w) ≡ numeral w → Some n ≡ numeral w
digit_all w n i l h = sym (at_drop_all (digits_on n) w i l) ∙ h
