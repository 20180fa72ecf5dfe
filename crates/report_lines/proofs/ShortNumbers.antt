-- What short words of digits are read as.
use Rattle.std.proofs.Common.{true, false, ◌≡◌, ℕ, zero, suc, ◌<◌, ◌+◌, ◌*◌, ◌-◌, ◌++◌, length, take, take-suc, get_or, ◌⊎◌, inl, inr, ℤ, Bool, ◌≤◌, ◌&&◌, cond, nat_le, Option, None, Some, List, [], ◌∷◌, refl, sym, ap, ◌∙◌, nat_eq, arith}
use Rattle.std.specs.Prelude.{pos}
use Rattle.std.specs.List.{list_all, position_or_len}
use Rattle.std.proofs.lemmas.List.Folds.{list_all_more}
use Rattle.std.proofs.lemmas.Bool.{cases_lt}
use Rattle.std.proofs.lemmas.Bool.Decides.{nat_tests}
use Rattle.word_cut.specs.Texts.{is_digit, is_number}
use Rattle.word_cut.specs.Whole.{number_of, digits_behind, size_read, read_of, greatest}

number_is : (b : ℕ) (bs : List ℕ) → nat_eq b 48 ≡ false → list_all is_digit (b ∷ bs) ≡ true → is_number (b ∷ bs) ≡ true
number_is b bs z d = rw z d

size_of_number : (text : List ℕ) (n : ℕ) → is_number text ≡ true → nat_le (number_of text) greatest ≡ true → number_of text ≡ n → size_read text ≡ Some n
size_of_number text n e f same = rw e (rw f (rw same refl))

-- digits that don't begin with a 0 are read as the number that they write
pub digits_read : (b : ℕ) (bs : List ℕ) (n : ℕ) → nat_eq b 48 ≡ false → list_all is_digit (b ∷ bs) ≡ true → number_of (b ∷ bs) ≡ n → n ≤ greatest → size_read (b ∷ bs) ≡ Some n
digits_read b bs n z d same small = size_of_number (b ∷ bs) n (number_is b bs z d) (least (number_of (b ∷ bs)) n same small) same
  where
    least : (m n : ℕ) → m ≡ n → n ≤ greatest → nat_le m greatest ≡ true
    least m n e h = grind (arith, nat_tests)

-- a number without a sign is a whole number
pub whole_read : (text : List ℕ) (n : ℕ) → size_read text ≡ Some n → read_of text ≡ Some (pos n)
whole_read [] n h = absurd cc
whole_read (b ∷ bs) n h = by_sign (nat_eq b 45) refl h
  where
    by_size : (t : Bool) → ◌≡◌ {A = Option ℕ} (cond t (Some (number_of (b ∷ bs))) None) (Some n) → ◌≡◌ {A = Option ℤ} (cond t (Some (pos (number_of (b ∷ bs)))) None) (Some (pos n))
    by_size true e = let same : number_of (b ∷ bs) ≡ n = cc in ap (λ (k : ℕ). Some (pos k)) same
    by_size false e = absurd cc

    minus : nat_eq b 45 ≡ true → is_number (b ∷ bs) ≡ false
    minus e = let is : b ≡ 45 = grind (arith, nat_tests, e) in ap (λ (k : ℕ). is_number (k ∷ bs)) is

    by_sign : (t : Bool) → nat_eq b 45 ≡ t → size_read (b ∷ bs) ≡ Some n → read_of (b ∷ bs) ≡ Some (pos n)
    by_sign true e k = absurd (let f = minus e in let g : ◌≡◌ {A = Option ℕ} None (Some n) = sym (ap (λ (t : Bool). cond (t && nat_le (number_of (b ∷ bs)) greatest) (Some (number_of (b ∷ bs))) None) f) ∙ k in cc)
    by_sign false e k = rw e (by_size (is_number (b ∷ bs) && nat_le (number_of (b ∷ bs)) greatest) k)

digits_behind-snoc : (n : ℕ) (xs : List ℕ) (b : ℕ) → digits_behind n (xs ++ b ∷ []) ≡ 10 * digits_behind n xs + (b - 48)
digits_behind-snoc n [] b = refl
digits_behind-snoc n (x ∷ xs) b = digits_behind-snoc (10 * n + (x - 48)) xs b

-- one byte more of a text
pub number_more : (text : List ℕ) (i n : ℕ) → i < length text → number_of (take i text) ≡ n → number_of (take (i + 1) text) ≡ 10 * n + (get_or text i 0 - 48)
number_more text i n lt h =
    let k : i + 1 ≡ suc i = omega arith in
    ap (λ (j : ℕ). number_of (take j text)) k ∙ ap number_of (take-suc text i 0 lt) ∙ digits_behind-snoc 0 (take i text) (get_or text i 0) ∙ ap (λ (m : ℕ). 10 * m + (get_or text i 0 - 48)) h

pub digits_more : (text : List ℕ) (i b : ℕ) → i < length text → get_or text i 0 ≡ b → 48 ≤ b → b ≤ 57 → list_all is_digit (take i text) ≡ true → list_all is_digit (take (i + 1) text) ≡ true
digits_more text i b lt is low high h =
    let d : is_digit b ≡ true = grind (arith, nat_tests, low, high) in
    list_all_more is_digit text i 0 lt ∙ rw (h, is, d) refl

-- the digits up to the first space, which don't begin with a 0, are read as the number that they write
pub front_read : (b : ℕ) (bs : List ℕ) (i n : ℕ) → nat_eq b 48 ≡ false → 0 < i → list_all is_digit (take i (b ∷ bs)) ≡ true → number_of (take i (b ∷ bs)) ≡ n → n ≤ greatest → size_read (take i (b ∷ bs)) ≡ Some n
front_read b bs zero n z some d same small = absurd (omega (arith, some))
front_read b bs (suc i) n z some d same small = digits_read b (take i bs) n z d same small

-- bytes that don't begin with a space have a word of some length
pub word_some : (b : ℕ) (bs : List ℕ) (i : ℕ) → nat_eq b 32 ≡ false → i ≡ position_or_len (λ b. nat_eq b 32) (b ∷ bs) → 0 < i
word_some b bs i z is = let e : position_or_len (λ b. nat_eq b 32) (b ∷ bs) ≡ 1 + position_or_len (λ b. nat_eq b 32) bs = rw z refl in omega (arith, is, e)

-- one byte more that isn't a space
pub before_more : (text : List ℕ) (i : ℕ) → ((k : ℕ) → k < i → get_or text k 0 ≡ 32 → ⊥) → (get_or text i 0 ≡ 32 → ⊥) → (k : ℕ) → k < i + 1 → get_or text k 0 ≡ 32 → ⊥
before_more text i before here k lt e = by_case (cases_lt k i)
  where
    by_case : (k < i) ⊎ (i ≤ k) → ⊥
    by_case (inl less) = before k less e
    by_case (inr more) = let is : i ≡ k = omega (arith, lt, more) in here (ap (λ (j : ℕ). get_or text j 0) is ∙ e)
