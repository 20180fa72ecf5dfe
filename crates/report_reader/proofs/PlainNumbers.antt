-- How numbers of a few digits are read where they stand.
use Rattle.std.proofs.Common.{◌≡◌, ℕ, zero, suc, ◌+◌, ◌-◌, ◌*◌, ◌<◌, ◌≤◌, ◌⊎◌, inl, inr, Bool, true, false, nat_eq, nat_le, List, [], ◌∷◌, ◌++◌, length, take, take-suc, take_all, drop, get_or, Some, refl, sym, ap, ◌∙◌, arith}
use Rattle.std.specs.List.{list_all}
use Rattle.std.proofs.lemmas.Option.{same_Some}
use Rattle.std.proofs.lemmas.Bool.{cases_lt}
use Rattle.std.proofs.lemmas.Bool.Decides.{nat_tests}
use Rattle.std.proofs.lemmas.List.Folds.{list_all_more}
use Rattle.word_cut.specs.Texts.{is_digit, is_number}
use Rattle.word_cut.specs.Whole.{number_of, digits_behind, size_read, greatest}
use Rattle.report_lines.specs.Fields.{count_format}
use Rattle.report_lines.specs.Words.{parts, next_of}
use Rattle.report_lines.proofs.FirstWord.{length_of_word, next_last, next_more}
use Rattle.report_reader.specs.Resolving.{IsShort}

digits_behind-snoc : (n : ℕ) (xs : List ℕ) (b : ℕ) → digits_behind n (xs ++ b ∷ []) ≡ 10 * digits_behind n xs + (b - 48)
digits_behind-snoc n [] b = refl
digits_behind-snoc n (x ∷ xs) b = digits_behind-snoc (10 * n + (x - 48)) xs b

-- one digit more of a text
pub number_more : (text : List ℕ) (i n : ℕ) → i < length text → number_of (take i text) ≡ n → number_of (take (i + 1) text) ≡ 10 * n + (get_or text i 0 - 48)
number_more text i n lt h =
    let k : i + 1 ≡ suc i = omega arith in
    ap (λ (j : ℕ). number_of (take j text)) k ∙ ap number_of (take-suc text i 0 lt) ∙ digits_behind-snoc 0 (take i text) (get_or text i 0) ∙ ap (λ (m : ℕ). 10 * m + (get_or text i 0 - 48)) h

pub digits_more : (text : List ℕ) (i b : ℕ) → i < length text → get_or text i 0 ≡ b → 48 ≤ b → b ≤ 57 → list_all is_digit (take i text) ≡ true → list_all is_digit (take (i + 1) text) ≡ true
digits_more text i b lt is low high h =
    let d : is_digit b ≡ true = grind (arith, nat_tests, low, high) in
    list_all_more is_digit text i 0 lt ∙ rw (h, is, d) refl

pub no_space_more : (text : List ℕ) (i : ℕ) → ((k : ℕ) → k < i → get_or text k 0 ≡ 32 → ⊥) → 48 ≤ get_or text i 0 → (k : ℕ) → k < i + 1 → get_or text k 0 ≡ 32 → ⊥
no_space_more text i before low k lt e = by_case (cases_lt k i)
  where
    by_case : (k < i) ⊎ (i ≤ k) → ⊥
    by_case (inl less) = before k less e
    by_case (inr more) =
        let is : i ≡ k = omega (arith, lt, more) in
        let here : get_or text i 0 ≡ 32 = ap (λ (j : ℕ). get_or text j 0) is ∙ e in
        absurd (omega (arith, low, here))

number_is : (b : ℕ) (bs : List ℕ) → nat_eq b 48 ≡ false → list_all is_digit (b ∷ bs) ≡ true → is_number (b ∷ bs) ≡ true
number_is b bs z d = rw z d

zero_is : (b : ℕ) → nat_eq b 48 ≡ true → is_number (b ∷ []) ≡ true
zero_is b z = rw z refl

size_of_number : (text : List ℕ) (n : ℕ) → is_number text ≡ true → number_of text ≡ n → n ≤ 4294967295 → size_read text ≡ Some n
size_of_number text n e same small = rw e (rw fits (rw same refl))
  where
    least : (m k : ℕ) → m ≡ k → k ≤ 4294967295 → nat_le m greatest ≡ true
    least m k e h = grind (arith, nat_tests)

    fits : nat_le (number_of text) greatest ≡ true
    fits = least (number_of text) n same small

-- such digits are read as the number that they write
pub short_read : (bytes : List ℕ) (len n : ℕ) → len ≤ length bytes → IsShort len bytes → list_all is_digit (take len bytes) ≡ true → number_of (take len bytes) ≡ n → n ≤ 4294967295 → size_read (take len bytes) ≡ Some n
short_read bytes zero n le short d is small = absurd (omega (arith, short.0))
short_read [] (suc len) n le short d is small = absurd (omega (arith, le))
short_read (b ∷ bs) (suc len) n le short d is small = by_zero (nat_eq b 48) refl
  where
    only_zero : (k : ℕ) → k ≡ len → nat_eq b 48 ≡ true → is_number (b ∷ take k bs) ≡ true
    only_zero zero e z = zero_is b z
    only_zero (suc k) e z = absurd (let is : b ≡ 48 = grind (arith, nat_tests, z) in short.1 (omega (arith, e)) is)

    by_zero : (t : Bool) → nat_eq b 48 ≡ t → size_read (take (suc len) (b ∷ bs)) ≡ Some n
    by_zero false z = size_of_number (b ∷ take len bs) n (number_is b (take len bs) z d) is small
    by_zero true z = size_of_number (b ∷ take len bs) n (only_zero len refl z) is small

fits_count : (n : ℕ) → n ≤ 4294967295 → nat_le n 4294967295 ≡ true
fits_count n h = grind (arith, nat_tests)

-- a word that is a number is read as a count
pub read_count : (words : List (List ℕ)) (w : List ℕ) (rest : List (List ℕ)) (n : ℕ) → next_of words ≡ Some (w, rest) → size_read w ≡ Some n → n ≤ 4294967295 → count_format.get words ≡ Some (n, rest)
read_count [] w rest n e s small = absurd cc
read_count (v ∷ vs) w rest n e s small =
    let both = same_Some _ _ e in
    let v_is : v ≡ w = ap (λ (x : List ℕ × List (List ℕ)). x.0) both in
    let vs_is : vs ≡ rest = ap (λ (x : List ℕ × List (List ℕ)). x.1) both in
    let f = fits_count n small in
    rw (v_is, s, f, vs_is) refl

-- a number before a space
pub before_space : (bytes : List ℕ) (len n : ℕ) → len < length bytes → get_or bytes len 0 ≡ 32 → ((k : ℕ) → k < len → get_or bytes k 0 ≡ 32 → ⊥)
    → IsShort len bytes → list_all is_digit (take len bytes) ≡ true → number_of (take len bytes) ≡ n → n ≤ 4294967295
    → count_format.get (parts bytes) ≡ Some (n, parts (take (length bytes - (len + 1)) (drop (len + 1) bytes)))
before_space bytes len n lt here before short d is small =
    read_count (parts bytes) (take len bytes) _ n
    (next_more bytes len (sym (length_of_word bytes len (omega (arith, lt)) before (λ h. here))) (omega (arith, lt)) (λ e. absurd (omega (arith, lt, e))))
    (short_read bytes len n (omega (arith, lt)) short d is small) small

-- a number to the end
pub to_end : (bytes : List ℕ) (len n : ℕ) → len ≡ length bytes → ((k : ℕ) → k < len → get_or bytes k 0 ≡ 32 → ⊥)
    → IsShort len bytes → list_all is_digit (take len bytes) ≡ true → number_of (take len bytes) ≡ n → n ≤ 4294967295
    → count_format.get (parts bytes) ≡ Some (n, [])
to_end bytes len n e before short d is small =
    read_count (parts bytes) bytes [] n
    (next_last bytes len (sym (length_of_word bytes len (omega (arith, e)) before (λ h. absurd (omega (arith, e, h))))) e)
    (ap size_read (sym (take_all len bytes (omega (arith, e)))) ∙ short_read bytes len n (omega (arith, e)) short d is small) small
