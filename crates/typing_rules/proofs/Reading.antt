-- A tree that is read stands in a text.
use Rattle.std.proofs.Common.{◌≡◌, ℕ, zero, suc, ◌+◌, ◌<◌, ◌≤◌, List, [], ◌∷◌, length, get_or, ap, refl, arith}
use Rattle.std.proofs.lemmas.List.{length-map}
use Rattle.std.specs.List.{AllByRecursion}
use Rattle.word_cut.specs.declared.word.Word.{Word}
use Rattle.word_cut.specs.Words.{IsCut, Stands, text_of}
use Rattle.word_cut.proofs.Standing.{words_stand, words_rise}
use Rattle.parser_combinators.specs.Words.{Spelt, plain}
use Rattle.parser_combinators.specs.Texts.{text_of as symbol_text}
use Rattle.spec_trees.specs.Form.{TreeForm}
use Rattle.spec_trees.specs.Spelling.{tree}
use Rattle.spec_trees.specs.Place.{IsRead}
use Rattle.typing_rules.specs.FaultRules.{IsWritten}

length-plain : (xs : List Spelt) → length (plain xs) ≡ length xs
length-plain [] = refl
length-plain (x ∷ xs) = ap suc (length-plain xs)

one_of : {X : Type 0} (P : X → Type 0) (xs : List X) (i : ℕ) (d : X) → AllByRecursion P xs → i < length xs → P (get_or xs i d)
one_of P [] i d h lt = absurd (omega arith)
one_of P (x ∷ xs) zero d h lt = h.0
one_of P (x ∷ xs) (suc i) d h lt = one_of P xs i d h.1 (let less : i < length xs = omega arith in less)

-- each word takes a byte, or is the last
few_words : (bytes : List ℕ) (words : List Word) → IsCut bytes words → length words ≤ length bytes + 1
few_words bytes [] c = omega arith
few_words bytes (w ∷ ws) c =
    let lt : length ws < length (w ∷ ws) = omega arith in
    let rise : length ws ≤ (get_or (w ∷ ws) (length ws) w).at = words_rise bytes (w ∷ ws) c (length ws) w lt in
    let stand : Stands bytes (get_or (w ∷ ws) (length ws) w) = one_of (Stands bytes) (w ∷ ws) (length ws) w (words_stand bytes (w ∷ ws) c) lt in
    let within = stand.within in
    omega arith

pub read_is_written : (bytes : List ℕ) (words : List Word) (t : TreeForm) → length bytes < 4294967296 → IsCut bytes words → IsRead bytes words t → IsWritten t
read_is_written bytes words t short cut read = record { placed = read.2; few = few }
  where
    few : length (tree t) ≤ 4294967296
    few =
        let few = few_words bytes words cut in
        let a = length-plain (tree t) in
        let b = length-map (plain (tree t)) symbol_text in
        let c = ap length read.1 in
        let d = length-map words (text_of bytes) in
        omega arith
