-- The words that a test finds.
use Rattle.std.proofs.Common.{◌≡◌, ℕ, zero, suc, ◌<◌, Bool, true, false, List, [], ◌∷◌, length, string_bytes, String, refl, sym, inl, inr, arith, Option, Some, None, MatchOption, Bor}
use Rattle.std.proofs.lemmas.Bool.{both_ways, cases_Bool, or_cases, or_left, or_right}
use Rattle.std.proofs.lemmas.Slice.Eq.{bytes_eq-Decides}
use Rattle.std.specs.Bool.{Decides}
use Rattle.std.specs.List.{HoldsAt, find, list_any}
use Rattle.std.specs.Option.{option_copied}
use Rattle.std.specs.Str.{bytes_eq}
use Rattle.std.specs.declared.alloc.Global.{Global}
use Rattle.console.specs.declared.words.Setting.{Setting}
use Rattle.console.specs.Spoken.{Spoken, Named, Valued, Unvalued}

heard : (ws : List (String Global)) (text : List ℕ) → list_any (λ w. bytes_eq (string_bytes w) text) ws ≡ true → Spoken ws text
heard [] text e = absurd (both_ways false refl e)
heard (w ∷ ws) text e =
    elim (or_cases (bytes_eq (string_bytes w) text) (list_any (λ w. bytes_eq (string_bytes w) text) ws) e) [
      | inl h ↦ (0, omega arith, λ d. (bytes_eq-Decides (string_bytes w) text).0 h)
      | inr h ↦ let s = heard ws text h in (suc s.0, omega (arith, s.1), s.2)
    ]

said :
    (ws : List (String Global)) (text : List ℕ) (i : ℕ) → i < length ws → HoldsAt (λ w. string_bytes w ≡ text) ws i →
    list_any (λ w. bytes_eq (string_bytes w) text) ws ≡ true
said [] text i l h = absurd (omega arith)
said (w ∷ ws) text zero l h = or_left _ _ ((bytes_eq-Decides (string_bytes w) text).1 (h w))
said (w ∷ ws) text (suc i) l h = or_right _ _ (said ws text i (omega arith) h)

-- a test of each word tells whether one is the text
pub spoken :
    (ws : List (String Global)) (text : List ℕ) (r : Bool) → r ≡ list_any (λ w. bytes_eq (string_bytes w) text) ws →
    Decides r (Spoken ws text)
spoken ws text r e = rw e ((heard ws text, λ s. said ws text s.0 s.1 s.2))

-- the option found stands one place later in a longer list
none_later :
    (s : Setting) (ss : List Setting) (name : List ℕ) → (string_bytes s.name ≡ name → ⊥) → Unvalued ss name →
    (k : ℕ) → k < suc (length ss) → Named (s ∷ ss) k name → ⊥
none_later s ss name other h zero l n = other (n s)
none_later s ss name other h (suc k) l n = h k (omega arith) n

before_later :
    (s : Setting) (ss : List Setting) (name : List ℕ) (at : ℕ) → (string_bytes s.name ≡ name → ⊥) →
    ((k : ℕ) → k < at → Named ss k name → ⊥) → (k : ℕ) → k < suc at → Named (s ∷ ss) k name → ⊥
before_later s ss name at other h zero l n = other (n s)
before_later s ss name at other h (suc k) l n = h k (omega arith) n

later :
    (s : Setting) (ss : List Setting) (name : List ℕ) (o : Option Setting) → (string_bytes s.name ≡ name → ⊥) →
    MatchOption o (Unvalued ss name) (λ x. Valued ss name (string_bytes x.value)) →
    MatchOption o (Unvalued (s ∷ ss) name) (λ x. Valued (s ∷ ss) name (string_bytes x.value))
later s ss name None other h = none_later s ss name other h
later s ss name (Some x) other h = record {
  at = suc h.at;
  there = omega (arith, h.there);
  named = h.named;
  before = before_later s ss name h.at other h.before;
  is = h.is;
}

-- the first option that passes the test of its name has the value
valued :
    (ss : List Setting) (name : List ℕ) →
    MatchOption (find (λ s. bytes_eq (string_bytes s.name) name) ss) (Unvalued ss name) (λ x. Valued ss name (string_bytes x.value))
valued [] name = λ k l. absurd (omega arith)
valued (s ∷ ss) name =
    elim (cases_Bool (bytes_eq (string_bytes s.name) name)) [
      | inl e ↦
          rw e (record {
            at = 0;
            there = omega arith;
            named = λ d. (bytes_eq-Decides (string_bytes s.name) name).0 e;
            before = λ k l. absurd (omega arith);
            is = λ d. refl;
          })
      | inr e ↦
          rw e (later s ss name (find (λ x. bytes_eq (string_bytes x.name) name) ss)
          (λ h. both_ways _ e ((bytes_eq-Decides (string_bytes s.name) name).1 h)) (valued ss name))
    ]

pub value_found :
    (ss : List Setting) (name : List ℕ) (o : Option (Bor Setting)) →
    option_copied o ≡ find (λ s. bytes_eq (string_bytes s.name) name) ss →
    MatchOption o (Unvalued ss name) (λ b. Valued ss name (string_bytes b.now.value))
value_found ss name None e = rw (sym e) at (valued ss name)
value_found ss name (Some b) e = rw (sym e) at (valued ss name)
