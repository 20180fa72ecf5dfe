-- A text that writes a whole number is its decimal spelling, and the other way round.
use Rattle.std.proofs.Common.{◌≡◌, ℕ, zero, suc, codes, ◌+◌, ◌*◌, ◌-◌, ◌/◌, ◌%◌, ◌<◌, ◌≤◌, Bool, true, false, not, ◌&&◌, nat_eq, leb, List, [], ◌∷◌, ◌++◌, refl, sym, ap, subst, ◌∙◌, append_assoc, arith, ℤ, pos, negsuc, neg_ℤ, unsigned_abs, Some}
use Rattle.std.specs.Fmt.{decimal, signed_decimal}
use Rattle.std.specs.List.{list_all}
use Rattle.std.specs.Str.{bytes_eq}
use Rattle.std.proofs.lemmas.Fmt.{decimal_digit, decimal_step_wide, decimal_by_steps_wide}
use Rattle.std.proofs.lemmas.List.{append-nil}
use Rattle.std.proofs.lemmas.Slice.Eq.{bytes_eq-Decides}
use Rattle.std.proofs.lemmas.List.Folds.{list_all-append}
use Rattle.std.proofs.lemmas.Bool.{and_parts, false≢true, le-leb}
use Rattle.std.proofs.lemmas.Bool.Decides.{nat_tests}
use Rattle.word_cut.specs.Texts.{is_digit, is_number, is_empty}
use Rattle.word_cut.specs.Whole.{digits_behind, number_of, is_whole, whole_of, greatest, read_of}
use Rattle.word_cut.proofs.Numbers.{digits_behind-grows}

-- ---- from digits to the number and back

digit_bounds : (b : ℕ) → is_digit b ≡ true → (48 ≤ b) × (b ≤ 57)
digit_bounds b e = (grind (arith, nat_tests), grind (arith, nat_tests))

decimal_behind : (n : ℕ) (bs : List ℕ) → 1 ≤ n → list_all is_digit bs ≡ true → digits_behind n bs ≤ greatest → decimal (digits_behind n bs) ≡ decimal n ++ bs
decimal_behind n [] h d small = sym (append-nil (decimal n))
decimal_behind n (b ∷ bs) h d small =
    let bounds = digit_bounds b (and_parts (is_digit b) (list_all is_digit bs) d).0 in
    let m = 10 * n + (b - 48) in
    let grows = digits_behind-grows m bs in
    let rest = decimal_behind m bs (omega arith) (and_parts (is_digit b) (list_all is_digit bs) d).1 small in
    let step = decimal_step_wide m (omega arith) (omega arith) in
    let quotient : m / 10 ≡ n = omega arith in
    let digit : 48 + m % 10 ≡ b = omega arith in
    rest ∙ ap (λ t. t ++ bs) (step ∙ rw (quotient, digit) refl) ∙ append_assoc (decimal n) (b ∷ []) bs

is_empty_only : (bs : List ℕ) → is_empty bs ≡ true → bs ≡ []
is_empty_only [] e = refl
is_empty_only (b ∷ bs) e = absurd (false≢true e)

same_by : (b k : ℕ) → nat_eq b k ≡ true → b ≡ k
same_by b k e = grind (arith, nat_tests)

other_by : (b k : ℕ) → nat_eq b k ≡ false → b ≡ k → ⊥
other_by b k e = grind (arith, nat_tests)

pub decimal_of_number : (text : List ℕ) → is_number text ≡ true → number_of text ≤ greatest → decimal (number_of text) ≡ text
decimal_of_number [] e small = absurd (false≢true e)
decimal_of_number (b ∷ bs) e small = by_case (nat_eq b 48) refl
  where
    by_case : (z : Bool) → nat_eq b 48 ≡ z → decimal (number_of (b ∷ bs)) ≡ b ∷ bs
    by_case true z =
        let k = rw z at e in
        let n : b ≡ 48 = same_by b 48 z in
        let m : bs ≡ [] = is_empty_only bs k in
        rw (m, n) (decimal_digit 0 (omega arith))
    by_case false z =
        let k = rw z at e in
        let digit = (and_parts (is_digit b) (list_all is_digit bs) k).0 in
        let bounds = digit_bounds b digit in
        let other = other_by b 48 z in
        let n = 10 * 0 + (b - 48) in
        let first : decimal n ≡ b ∷ [] = decimal_digit n (omega arith) ∙ ap (λ d. d ∷ []) (omega arith) in
        decimal_behind n bs (omega arith) (and_parts (is_digit b) (list_all is_digit bs) k).1 small ∙ ap (λ t. t ++ bs) first

digits_behind-last : (n : ℕ) (bs : List ℕ) (d : ℕ) → digits_behind n (bs ++ d ∷ []) ≡ 10 * digits_behind n bs + (d - 48)
digits_behind-last n [] d = refl
digits_behind-last n (b ∷ bs) d = digits_behind-last (10 * n + (b - 48)) bs d

is_number-last : (ds : List ℕ) (d : ℕ) → is_number ds ≡ true → 1 ≤ number_of ds → is_digit d ≡ true → is_number (ds ++ d ∷ []) ≡ true
is_number-last [] d e some k = absurd (false≢true e)
is_number-last (b ∷ bs) d e some k = by_case (nat_eq b 48) refl
  where
    by_case : (z : Bool) → nat_eq b 48 ≡ z → is_number ((b ∷ bs) ++ d ∷ []) ≡ true
    by_case true z =
        let h = rw z at e in
        let n : b ≡ 48 = same_by b 48 z in
        let m : bs ≡ [] = is_empty_only bs h in
        let none : number_of (b ∷ bs) ≡ 0 = rw (m, n) refl in
        absurd (omega arith)
    by_case false z =
        let h = rw z at e in
        let first = (and_parts (is_digit b) (list_all is_digit bs) h).0 in
        let more = (and_parts (is_digit b) (list_all is_digit bs) h).1 in
        let all : list_all is_digit (bs ++ d ∷ []) ≡ true = list_all-append is_digit bs (d ∷ []) ∙ rw (more, k) refl in
        rw (z, first, all) refl

abbrev pub Writes : ℕ → List ℕ → Type 0
Writes n ds = (is_number ds ≡ true) × (number_of ds ≡ n)

is_digit-of : (k : ℕ) → k < 10 → is_digit (48 + k) ≡ true
is_digit-of k h = grind (arith, nat_tests)

one_digit : (n : ℕ) → n < 10 → Writes n ((48 + n) ∷ [])
one_digit n h = (by_case (nat_eq (48 + n) 48) refl, omega arith)
  where
    by_case : (z : Bool) → nat_eq (48 + n) 48 ≡ z → is_number ((48 + n) ∷ []) ≡ true
    by_case true z = rw z refl
    by_case false z = let d = is_digit-of n h in rw (z, d) refl

more_digits : (n : ℕ) (ds : List ℕ) → 10 ≤ n → Writes (n / 10) ds → Writes n (ds ++ ((48 + n % 10) ∷ []))
more_digits n ds h w =
    let value = w.1 in
    let some : 1 ≤ number_of ds = omega arith in
    let last = digits_behind-last 0 ds (48 + n % 10) in
    (is_number-last ds (48 + n % 10) w.0 some (is_digit-of (n % 10) (omega arith)), last ∙ omega arith)

pub decimal_writes : (n : ℕ) → n ≤ greatest → Writes n (decimal n)
decimal_writes n small = decimal_by_steps_wide Writes one_digit more_digits n (omega arith)

-- ---- whole numbers

not_zero_text : (ds : List ℕ) (n : ℕ) → number_of ds ≡ suc n → not (bytes_eq ds (codes "0")) ≡ true
not_zero_text ds n e = by_case (bytes_eq ds (codes "0")) refl
  where
    by_case : (z : Bool) → bytes_eq ds (codes "0") ≡ z → not (bytes_eq ds (codes "0")) ≡ true
    by_case true z =
        let same : ds ≡ codes "0" = (bytes_eq-Decides ds (codes "0")).0 z in
        let none : number_of ds ≡ 0 = ap number_of same in
        absurd (omega arith)
    by_case false z = rw z refl

zero_text : (ds : List ℕ) → not (bytes_eq ds (codes "0")) ≡ true → ds ≡ codes "0" → ⊥
zero_text ds e same =
    let z : bytes_eq ds (codes "0") ≡ true = (bytes_eq-Decides ds (codes "0")).1 same in
    let k = rw z at e in
    false≢true k

-- a number begins with no -
number_first : (b : ℕ) (bs : List ℕ) → is_number (b ∷ bs) ≡ true → nat_eq b 45 ≡ false
number_first b bs e = by_case (nat_eq b 45) refl
  where
    by_case : (z : Bool) → nat_eq b 45 ≡ z → nat_eq b 45 ≡ false
    by_case false z = z
    by_case true z =
        let n : b ≡ 45 = same_by b 45 z in
        let P : ℕ → Type 0 = λ b. is_number (b ∷ bs) ≡ true in
        absurd (false≢true (subst P n e))

spelled_minus : (n : ℕ) (b : ℕ) (bs : List ℕ) → b ≡ 45 → decimal n ≡ bs → (n ≡ 0 → ⊥) → signed_decimal (neg_ℤ (pos n)) ≡ b ∷ bs
spelled_minus zero b bs e d some = absurd (some refl)
spelled_minus (suc n) b bs e d some = rw (e, d) refl

size_minus : (n : ℕ) → unsigned_abs (neg_ℤ (pos n)) ≡ n
size_minus zero = refl
size_minus (suc n) = refl

spelled_whole : (text : List ℕ) → is_whole text ≡ true → unsigned_abs (whole_of text) ≤ greatest → signed_decimal (whole_of text) ≡ text
spelled_whole [] e small = absurd (false≢true e)
spelled_whole (b ∷ bs) e small = by_case (nat_eq b 45) refl
  where
    by_case : (z : Bool) → nat_eq b 45 ≡ z → signed_decimal (whole_of (b ∷ bs)) ≡ b ∷ bs
    by_case true z =
        let h = rw z at e in
        let s = rw z at small in
        let digits = (and_parts (is_number bs) (not (bytes_eq bs (codes "0"))) h).0 in
        let other = (and_parts (is_number bs) (not (bytes_eq bs (codes "0"))) h).1 in
        let size = size_minus (number_of bs) in
        let d = decimal_of_number bs digits (omega arith) in
        let some : number_of bs ≡ 0 → ⊥ = λ n. zero_text bs other (sym d ∙ ap decimal n ∙ decimal_digit 0 (omega arith)) in
        rw z (spelled_minus (number_of bs) b bs (same_by b 45 z) d some)
    by_case false z =
        let h = rw z at e in
        let s = rw z at small in
        rw z (decimal_of_number (b ∷ bs) h s)

whole_of_number : (text : List ℕ) → is_number text ≡ true → (is_whole text ≡ true) × (whole_of text ≡ pos (number_of text))
whole_of_number [] e = absurd (false≢true e)
whole_of_number (b ∷ bs) e = let n = number_first b bs e in (rw n e, rw n refl)

read_of_spelled : (z : ℤ) → unsigned_abs z ≤ greatest → read_of (signed_decimal z) ≡ Some z
read_of_spelled (pos n) small =
    let w = decimal_writes n small in
    let h = whole_of_number (decimal n) w.0 in
    let i = h.0 in
    let v : whole_of (decimal n) ≡ pos n = h.1 ∙ ap pos w.1 in
    let fits : leb n greatest ≡ true = le-leb n greatest small in
    rw (i, v, fits) refl
read_of_spelled (negsuc n) small =
    let w = decimal_writes (suc n) small in
    let d = w.0 in
    let v = w.1 in
    let other = not_zero_text (decimal (suc n)) n v in
    let fits : leb (suc n) greatest ≡ true = le-leb (suc n) greatest small in
    rw (d, other, v, fits) refl

pub read_of-spelled : (text : List ℕ) (z : ℤ) → unsigned_abs z ≤ greatest → (read_of text ≡ Some z → text ≡ signed_decimal z) × (text ≡ signed_decimal z → read_of text ≡ Some z)
read_of-spelled text z small = (forth, λ e. let P : List ℕ → Type 0 = λ t. read_of t ≡ Some z in subst P (sym e) (read_of_spelled z small))
  where
    forth : read_of text ≡ Some z → text ≡ signed_decimal z
    forth e = by_case (is_whole text && leb (unsigned_abs (whole_of text)) greatest) refl
      where
        by_case : (b : Bool) → is_whole text && leb (unsigned_abs (whole_of text)) greatest ≡ b → text ≡ signed_decimal z
        by_case true b =
            let h = rw b at e in
            let v : whole_of text ≡ z = cc in
            let whole = (and_parts (is_whole text) (leb (unsigned_abs (whole_of text)) greatest) b).0 in
            sym (spelled_whole text whole (rw v small)) ∙ ap signed_decimal v
        by_case false b = let h = rw b at e in cc
