-- The number that digits write, digit by digit.
use Rattle.std.proofs.Common.{Bool, true, ◌≡◌, ℕ, ◌+◌, ◌*◌, ◌-◌, ◌<◌, ◌≤◌, Option, None, SomeIff, subst, sym, List, [], ◌∷◌, length, get_or, drop, ◌∙◌, arith, zero, suc, ◌^◌, false, refl, nat_eq}
use Rattle.std.specs.List.{list_all}
use Rattle.std.proofs.Math.Nat.{pow-suc, mul-le-mul_right}
use Rattle.std.proofs.lemmas.Bool.{and_parts, false≢true, leb-false}
use Rattle.std.proofs.lemmas.Bool.Decides.{nat_tests}
use Rattle.std.proofs.lemmas.List.{at_drop_more}
use Rattle.word_cut.specs.Texts.{is_digit, is_number, is_empty, is_long_number}
use Rattle.word_cut.specs.Whole.{digits_behind, number_of, greatest}

pub digits_behind-grows : (n : ℕ) (bs : List ℕ) → n ≤ digits_behind n bs
digits_behind-grows n [] = omega arith
digits_behind-grows n (b ∷ bs) = omega (arith, digits_behind-grows (10 * n + (b - 48)) bs)

pub one_more_digit : (text : List ℕ) (i n : ℕ) → i < length text → number_of text ≡ digits_behind n (drop i text) → number_of text ≡ digits_behind (10 * n + (get_or text i 0 - 48)) (drop (i + 1) text)
one_more_digit text i n h e = e ∙ at_drop_more (digits_behind n) text i 0 h

pub too_great : (text : List ℕ) (i n : ℕ) → i < length text → number_of text ≡ digits_behind n (drop i text) → (10 * n + (get_or text i 0 - 48) ≤ greatest → ⊥) → number_of text ≤ greatest → ⊥
too_great text i n h e over small =
    let grows = digits_behind-grows (10 * n + (get_or text i 0 - 48)) (drop (i + 1) text) in
    let same = one_more_digit text i n h e in
    over (omega arith)

pub SomeIff-none : (r : Option ℕ) (P : Type 0) (v : ℕ) → r ≡ None → (P → ⊥) → SomeIff r P v
SomeIff-none r P v e n = let Q : Option ℕ → Type 0 = λ r. SomeIff r P v in subst Q (sym e) n

-- k more digits make a number less than 10^k times the next one
digits_behind-bound : (k n : ℕ) (bs : List ℕ) → list_all is_digit bs ≡ true → length bs ≤ k → digits_behind n bs < (n + 1) * 10 ^ k
digits_behind-bound zero n [] d h = omega arith
digits_behind-bound zero n (b ∷ bs) d h = absurd (omega arith)
digits_behind-bound (suc k) n [] d h =
    let more = digits_behind-bound k n [] refl (omega arith) in
    rw pow-suc (omega arith)
digits_behind-bound (suc k) n (b ∷ bs) d h =
    let m = 10 * n + (b - 48) in
    let digit : b ≤ 57 = ninth b (and_parts (is_digit b) (list_all is_digit bs) d).0 in
    let more = digits_behind-bound k m bs (and_parts (is_digit b) (list_all is_digit bs) d).1 (omega arith) in
    let grow : (m + 1) * 10 ^ k ≤ (10 * (n + 1)) * 10 ^ k = mul-le-mul_right (10 ^ k) (omega arith) in
    rw pow-suc (omega arith)
  where
    ninth : (b : ℕ) → is_digit b ≡ true → b ≤ 57
    ninth b e = grind (arith, nat_tests)

zero_digits : (b : ℕ) (bs : List ℕ) → nat_eq b 48 ≡ true → is_empty bs ≡ true → list_all is_digit (b ∷ bs) ≡ true
zero_digits b [] z e = grind (arith, nat_tests)
zero_digits b (d ∷ bs) z e = absurd (false≢true e)

-- a number of at most 38 digits is below 10^38
pub number_of-short : (text : List ℕ) → is_number text ≡ true → is_long_number text ≡ false → number_of text < 10 ^ 38
number_of-short text e s = digits_behind-bound 38 0 text (digits text e) (short text e s)
  where
    digits : (text : List ℕ) → is_number text ≡ true → list_all is_digit text ≡ true
    digits [] e = absurd (false≢true e)
    digits (b ∷ bs) e = by_case (nat_eq b 48) refl
      where
        by_case : (z : Bool) → nat_eq b 48 ≡ z → list_all is_digit (b ∷ bs) ≡ true
        by_case true z = zero_digits b bs z (rw z at e)
        by_case false z = rw z at e

    short : (text : List ℕ) → is_number text ≡ true → is_long_number text ≡ false → length text ≤ 38
    short text e s = let h = rw e at s in omega (arith, leb-false 39 (length text) h)
