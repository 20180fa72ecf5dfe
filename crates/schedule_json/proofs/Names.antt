-- The names of a specification are text.
use Rattle.std.proofs.Common.{◌≡◌, ℕ, zero, suc, ◌<◌, true, List, [], ◌∷◌, ◌++◌, refl, arith}
use Rattle.std.proofs.lemmas.Bool.{and_parts}
use Rattle.std.proofs.lemmas.Bool.Decides.{nat_tests}
use Rattle.std.proofs.lemmas.List.Folds.{list_all-append}
use Rattle.std.proofs.lemmas.Str.{IsUtf8-from_ascii, is_utf8-from_IsUtf8}
use Rattle.std.specs.List.{list_all}
use Rattle.std.specs.Str.{IsAscii, is_utf8}
use Rattle.spec_core.specs.Name.{is_letter, is_name, is_name_byte, is_word, is_word_name}
use Rattle.spec_core.specs.Specification.{Specification}
use Rattle.spec_core.specs.Typed.{is_specification, names_from_consts, names_from_relations}
use Rattle.spec_core.proofs.Parts.{parts_of}
use Rattle.schedule_json.specs.Worlds.{const_names}

ascii_byte : (b : ℕ) → is_name_byte b ≡ true → b < 128
ascii_byte b e = grind (arith, nat_tests)

ascii_rest : (bs : List ℕ) → list_all is_name_byte bs ≡ true → IsAscii bs
ascii_rest [] e i = omega arith
ascii_rest (b ∷ bs) e zero = ascii_byte b ((and_parts (is_name_byte b) (list_all is_name_byte bs) e).0)
ascii_rest (b ∷ bs) e (suc i) = ascii_rest bs ((and_parts (is_name_byte b) (list_all is_name_byte bs) e).1) i

letter_byte : (b : ℕ) → is_letter b ≡ true → is_name_byte b ≡ true
letter_byte b e = rw e refl

ascii_word : (bs : List ℕ) → is_word bs ≡ true → IsAscii bs
ascii_word [] e i = omega arith
ascii_word (b ∷ bs) e zero = ascii_byte b (letter_byte b ((and_parts (is_letter b) (list_all is_name_byte bs) e).0))
ascii_word (b ∷ bs) e (suc i) = ascii_rest bs ((and_parts (is_letter b) (list_all is_name_byte bs) e).1) i

text_word : (bs : List ℕ) → is_word_name bs ≡ true → is_utf8 bs ≡ true
text_word bs e = is_utf8-from_IsUtf8 bs (IsUtf8-from_ascii bs (ascii_word bs ((and_parts (is_name bs) (is_word bs) e).1)))

text_words : (names : List (List ℕ)) → list_all is_word_name names ≡ true → list_all is_utf8 names ≡ true
text_words [] e = refl
text_words (n ∷ ns) e = let p = and_parts (is_word_name n) (list_all is_word_name ns) e in let first = text_word n p.0 in rw first (text_words ns p.1)

first_words : (xs ys : List (List ℕ)) → list_all is_word_name (xs ++ ys) ≡ true → (list_all is_word_name xs ≡ true) × (list_all is_word_name ys ≡ true)
first_words xs ys e = let split = list_all-append is_word_name xs ys in let p = and_parts (list_all is_word_name xs) (list_all is_word_name ys) (rw split at e) in (p.0, p.1)

-- the names of sorts, and those of constants
pub sort_names : (d : Specification) → is_specification d ≡ true → list_all is_utf8 d.sorts ≡ true
sort_names d t = text_words d.sorts ((first_words d.sorts (names_from_consts d) ((parts_of d t).words)).0)

pub constant_names : (d : Specification) → is_specification d ≡ true → list_all is_utf8 (const_names d.consts) ≡ true
constant_names d t =
    let behind = (first_words d.sorts (names_from_consts d) ((parts_of d t).words)).1 in
    text_words (const_names d.consts) ((first_words (const_names d.consts) (names_from_relations d) behind).0)
