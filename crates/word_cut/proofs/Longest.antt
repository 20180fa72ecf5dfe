-- The longest word at the front of some bytes, by its first byte.
use Rattle.std.proofs.Common.{◌≡◌, ℕ, suc, ◌-◌, ◌≤◌, Bool, true, false, ◌||◌, ◌&&◌, nat_eq, List, [], ◌∷◌, ◌++◌, length, get_or, take, drop, refl, sym, ap, ◌∙◌, arith, subst}
use Rattle.std.specs.List.{list_all}
use Rattle.std.proofs.lemmas.List.{take_all}
use Rattle.std.proofs.lemmas.List.Folds.{list_all-append}
use Rattle.std.proofs.lemmas.Bool.{and_parts, false≢true}
use Rattle.std.proofs.lemmas.Bool.Decides.{nat_tests}
use Rattle.word_cut.specs.Texts.{is_letter, is_digit, is_name_byte, is_number, is_sign, is_single_sign, is_double_sign, is_word, is_empty}
use Rattle.word_cut.specs.Fronts.{StopsAt, IsRun, IsWordFront, double_at}

-- ---- the first byte says what kind of word it is

letter_no_digit : (b : ℕ) → is_letter b ≡ true → is_digit b ≡ false
letter_no_digit b e = grind (arith, nat_tests)

letter_single : (b : ℕ) → is_letter b ≡ true → is_single_sign b ≡ false
letter_single b e = grind (arith, nat_tests)

letter_double : (b : ℕ) → is_letter b ≡ true → is_double_sign b ≡ false
letter_double b e = grind (arith, nat_tests)

letter_zero : (b : ℕ) → is_letter b ≡ true → nat_eq b 48 ≡ false
letter_zero b e = grind (arith, nat_tests)

pub digit_no_letter : (b : ℕ) → is_digit b ≡ true → is_letter b ≡ false
digit_no_letter b e = grind (arith, nat_tests)

digit_single : (b : ℕ) → is_digit b ≡ true → is_single_sign b ≡ false
digit_single b e = grind (arith, nat_tests)

digit_double : (b : ℕ) → is_digit b ≡ true → is_double_sign b ≡ false
digit_double b e = grind (arith, nat_tests)

pub no_sign : (b : ℕ) (xs : List ℕ) → is_single_sign b ≡ false → is_double_sign b ≡ false → is_sign (b ∷ xs) ≡ false
no_sign b [] s d = s
no_sign b (c ∷ []) s d = rw d refl
no_sign b (c ∷ e ∷ xs) s d = refl

pub digit_no_sign : (b : ℕ) (xs : List ℕ) → is_digit b ≡ true → is_sign (b ∷ xs) ≡ false
digit_no_sign b xs e = no_sign b xs (digit_single b e) (digit_double b e)

pub letter_no_number : (b : ℕ) (xs : List ℕ) → is_letter b ≡ true → is_number (b ∷ xs) ≡ false
letter_no_number b xs e = let z = letter_zero b e in let d = letter_no_digit b e in rw (z, d) refl

pub name_of_word : (b : ℕ) (xs : List ℕ) → is_letter b ≡ true → is_word (b ∷ xs) ≡ list_all is_name_byte xs
name_of_word b xs e =
    let n = letter_no_number b xs e in
    let s = no_sign b xs (letter_single b e) (letter_double b e) in
    rw (n, s, e) (or_false (list_all is_name_byte xs))
  where
    or_false : (a : Bool) → a || (false || false) ≡ a
    or_false true = refl
    or_false false = refl

pub number_of_word : (b : ℕ) (xs : List ℕ) → is_digit b ≡ true → nat_eq b 48 ≡ false → is_word (b ∷ xs) ≡ list_all is_digit xs
number_of_word b xs e z =
    let l = digit_no_letter b e in
    let s = no_sign b xs (digit_single b e) (digit_double b e) in
    rw (l, z, s, e) (or_false (list_all is_digit xs))
  where
    or_false : (a : Bool) → a || false ≡ a
    or_false true = refl
    or_false false = refl

pub zero_of_word : (xs : List ℕ) → is_word (48 ∷ xs) ≡ is_empty xs
zero_of_word [] = refl
zero_of_word (c ∷ []) = refl
zero_of_word (c ∷ d ∷ xs) = refl

pub sign_of_word : (b : ℕ) (xs : List ℕ) → is_letter b ≡ false → is_digit b ≡ false → is_word (b ∷ xs) ≡ is_sign (b ∷ xs)
sign_of_word b xs l d = rw (l, no_number b xs d) refl
  where
    no_number : (b : ℕ) (xs : List ℕ) → is_digit b ≡ false → is_number (b ∷ xs) ≡ false
    no_number b xs d = grind (arith, nat_tests)

-- ---- runs

none_more : (test : ℕ → Bool) (front left more after : List ℕ) → StopsAt test left → left ≡ more ++ after → list_all test (front ++ more) ≡ true → more ≡ []
none_more test front left [] after s e p = refl
none_more test front left (m ∷ more) after s e p =
    let q = rw (list_all-append test front (m ∷ more)) at p in
    let r = (and_parts (test m) (list_all test more) (and_parts (list_all test front) (list_all test (m ∷ more)) q).1).0 in
    let P : List ℕ → Type 0 = StopsAt test in
    let t : test m ≡ false = subst P e s in
    absurd (false≢true (sym t ∙ r))

pub IsWordFront-name : (b : ℕ) (rest : List ℕ) (n : ℕ) → is_letter b ≡ true → IsRun is_name_byte rest n → IsWordFront (b ∷ rest) (suc n)
IsWordFront-name b rest n e r = (
  omega (arith, r.within),
  record {
    is_one = name_of_word b (take n rest) e ∙ r.pass;
    no_longer = λ more after split is. none_more is_name_byte (take n rest) (drop n rest) more after r.stops split (sym (name_of_word b (take n rest ++ more) e) ∙ is);
  },
)

pub IsWordFront-number : (b : ℕ) (rest : List ℕ) (n : ℕ) → is_digit b ≡ true → nat_eq b 48 ≡ false → IsRun is_digit rest n → IsWordFront (b ∷ rest) (suc n)
IsWordFront-number b rest n e z r = (
  omega (arith, r.within),
  record {
    is_one = number_of_word b (take n rest) e z ∙ r.pass;
    no_longer = λ more after split is. none_more is_digit (take n rest) (drop n rest) more after r.stops split (sym (number_of_word b (take n rest ++ more) e z) ∙ is);
  },
)

pub IsWordFront-zero : (b : ℕ) (rest : List ℕ) → b ≡ 48 → IsWordFront (b ∷ rest) 1
IsWordFront-zero b rest e =
    let P : ℕ → Type 0 = λ b. IsWordFront (b ∷ rest) 1 in
    subst P (sym e) (omega arith, record { is_one = refl; no_longer = λ more after split is. empty more (sym (zero_of_word more) ∙ is) })
  where
    empty : (more : List ℕ) → is_empty more ≡ true → more ≡ []
    empty [] e = refl
    empty (m ∷ more) e = absurd (false≢true e)

-- ---- signs

pub IsWordFront-double : (b : ℕ) (rest : List ℕ) → is_letter b ≡ false → is_digit b ≡ false → double_at b rest ≡ true → IsWordFront (b ∷ rest) 2
IsWordFront-double b [] l d e = absurd (false≢true e)
IsWordFront-double b (c ∷ rest) l d e = (
  omega arith,
  record {
    is_one = sign_of_word b (c ∷ []) l d ∙ e;
    no_longer = λ more after split is. longer more (sym (sign_of_word b (c ∷ more) l d) ∙ is);
  },
)
  where
    longer : (more : List ℕ) → is_sign (b ∷ c ∷ more) ≡ true → more ≡ []
    longer [] e = refl
    longer (m ∷ more) e = absurd (false≢true e)

longer_sign : (b : ℕ) (rest more after : List ℕ) → double_at b rest ≡ false → rest ≡ more ++ after → is_sign (b ∷ more) ≡ true → more ≡ []
longer_sign b rest [] after n split e = refl
longer_sign b rest (m ∷ []) after n split e =
    let P : List ℕ → Type 0 = λ xs. double_at b xs ≡ false in
    let t : is_double_sign b && nat_eq m 61 ≡ false = subst P split n in
    absurd (false≢true (sym t ∙ e))
longer_sign b rest (m ∷ k ∷ more) after n split e = absurd (false≢true e)

pub IsWordFront-single : (b : ℕ) (rest : List ℕ) → is_letter b ≡ false → is_digit b ≡ false → is_single_sign b ≡ true → double_at b rest ≡ false → IsWordFront (b ∷ rest) 1
IsWordFront-single b rest l d s n = (
  omega arith,
  record {
    is_one = sign_of_word b [] l d ∙ s;
    no_longer = λ more after split is. longer_sign b rest more after n split (sym (sign_of_word b more l d) ∙ is);
  },
)

pub IsWordFront-none : (b : ℕ) (rest : List ℕ) → is_letter b ≡ false → is_digit b ≡ false → is_single_sign b ≡ false → double_at b rest ≡ false → IsWordFront (b ∷ rest) 0
IsWordFront-none b rest l d s n text after split = no_text text after split
  where
    no_text : (text after : List ℕ) → b ∷ rest ≡ text ++ after → is_word text ≡ false
    no_text [] after split = refl
    no_text (t ∷ []) after split = let e : t ≡ b = cc in rw e (sign_of_word b [] l d ∙ s)
    no_text (t ∷ m ∷ []) after split =
        let e : t ≡ b = cc in
        let r : rest ≡ m ∷ after = cc in
        let P : List ℕ → Type 0 = λ xs. double_at b xs ≡ false in
        let k : is_double_sign b && nat_eq m 61 ≡ false = subst P r n in
        rw e (sign_of_word b (m ∷ []) l d ∙ k)
    no_text (t ∷ m ∷ k ∷ text) after split = let e : t ≡ b = cc in rw e (sign_of_word b (m ∷ k ∷ text) l d)

-- ---- a slice taken apart at its first byte

first_and_rest : (xs : List ℕ) → 1 ≤ length xs → get_or xs 0 0 ∷ take (length xs - 1) (drop 1 xs) ≡ xs
first_and_rest [] h = absurd (omega arith)
first_and_rest (x ∷ xs) h =
    let all : take (suc (length xs) - 1) xs ≡ xs = take_all _ xs (omega arith) in
    ap (λ r. x ∷ r) all

-- what is said of the first byte and the rest is said of the whole
pub IsWordFront-whole : (xs : List ℕ) (n m : ℕ) → 1 ≤ length xs → IsWordFront (get_or xs 0 0 ∷ take (length xs - 1) (drop 1 xs)) n → m ≡ n → IsWordFront xs m
IsWordFront-whole xs n m h w e =
    let P : List ℕ → Type 0 = λ ys. IsWordFront ys n in
    let Q : ℕ → Type 0 = IsWordFront xs in
    subst Q (sym e) (subst P (first_and_rest xs h) w)
