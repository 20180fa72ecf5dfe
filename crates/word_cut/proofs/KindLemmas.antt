-- The kind of a word that isn't reserved, by its first byte.
use Rattle.std.proofs.Common.{◌≡◌, ℕ, ◌≤◌, Bool, true, false, ◌||◌, List, [], ◌∷◌, length, get_or, refl, sym, ◌∙◌, arith}
use Rattle.std.proofs.lemmas.Bool.Decides.{nat_tests}
use Rattle.word_cut.specs.declared.word.WordKind.TheVariants as kinds
use Rattle.word_cut.specs.Texts.{is_letter, is_digit, is_word, is_number, is_reserved, free_kind, kind_of}
use Rattle.word_cut.proofs.Longest.{name_of_word, digit_no_letter, digit_no_sign}

letter_kind : (b : ℕ) (bs : List ℕ) → is_letter b ≡ true → is_word (b ∷ bs) ≡ true → free_kind (b ∷ bs) ≡ kinds.Name
letter_kind b bs e w = let n = sym (name_of_word b bs e) ∙ w in rw (e, n) refl

is_number_of : (b : ℕ) (bs : List ℕ) → is_digit b ≡ true → is_word (b ∷ bs) ≡ true → is_number (b ∷ bs) ≡ true
is_number_of b bs e w =
    let l = digit_no_letter b e in
    let s = digit_no_sign b bs e in
    let v = rw (l, s) at w in
    sym (or_false (is_number (b ∷ bs))) ∙ v
  where
    or_false : (a : Bool) → a || false ≡ a
    or_false true = refl
    or_false false = refl

no_number : (b : ℕ) (bs : List ℕ) → is_digit b ≡ false → is_number (b ∷ bs) ≡ false
no_number b bs d = grind (arith, nat_tests)

digit_kind : (b : ℕ) (bs : List ℕ) → is_digit b ≡ true → is_word (b ∷ bs) ≡ true → free_kind (b ∷ bs) ≡ kinds.Number
digit_kind b bs e w =
    let l = digit_no_letter b e in
    let n = is_number_of b bs e w in
    rw (l, n) refl

pub kind_of-letter : (text : List ℕ) → 1 ≤ length text → is_letter (get_or text 0 0) ≡ true → is_word text ≡ true → is_reserved text ≡ false → kind_of text ≡ kinds.Name
kind_of-letter [] h e w r = absurd (omega arith)
kind_of-letter (b ∷ bs) h e w r = rw r (letter_kind b bs e w)

pub kind_of-digit : (text : List ℕ) → 1 ≤ length text → is_digit (get_or text 0 0) ≡ true → is_word text ≡ true → is_reserved text ≡ false → kind_of text ≡ kinds.Number
kind_of-digit [] h e w r = absurd (omega arith)
kind_of-digit (b ∷ bs) h e w r = rw r (digit_kind b bs e w)
