-- Going through a list of keys, and through the words of some bytes.
use Rattle.std.proofs.Common.{◌≡◌, ℕ, zero, suc, ◌+◌, ◌<◌, ◌≤◌, Bool, true, false, Some, None, List, [], ◌∷◌, ◌++◌, length, get_or, drop, refl, sym, ap, ◌∙◌, leb, append_assoc, arith}
use Rattle.std.specs.List.{AllByRecursion}
use Rattle.std.specs.Str.{bytes_eq}
use Rattle.std.proofs.lemmas.List.{drop_all, at_drop_more, append-nil}
use Rattle.std.proofs.lemmas.Bool.{le-leb}
use Rattle.word_cut.specs.declared.word.Word.{Word}
use Rattle.word_cut.specs.Words.{IsCut, Stands}
use Rattle.word_cut.proofs.Standing.{words_stand, words_rise}
use Rattle.word_cut.specs.Texts.{is_number, is_long_number}
use Rattle.word_cut.specs.Whole.{number_of, greatest, size_read}
use Rattle.word_cut.proofs.Numbers.{number_of-short}
use Rattle.parser_combinators.specs.declared.token.Key.{Key}
use Rattle.parser_combinators.specs.declared.token.Symbol.TheVariants as symbol
use Rattle.parser_combinators.specs.declared.token.Token.{Token}
use Rattle.parser_combinators.specs.Texts.{key_text, key_from, all_keys, key_of, symbol_of}
use Rattle.parser_combinators.specs.Tokens.{token_of, tokens_from, tokens_of}

pub key_from-next : (ks : List Key) (text shown : List ℕ) (i : ℕ) (d : Key) → i < length ks → shown ≡ key_text (get_or ks i d) → bytes_eq text shown ≡ false → key_from ks text ≡ key_from (drop i ks) text → key_from ks text ≡ key_from (drop (i + 1) ks) text
key_from-next ks text shown i d h s e f =
    let other = rw s at e in
    f ∙ at_drop_more (λ ks. key_from ks text) ks i d h ∙ rw other refl

pub key_from-found : (ks : List Key) (text shown : List ℕ) (i : ℕ) (d : Key) → i < length ks → shown ≡ key_text (get_or ks i d) → bytes_eq text shown ≡ true → key_from ks text ≡ key_from (drop i ks) text → key_from ks text ≡ Some (get_or ks i d)
key_from-found ks text shown i d h s e f =
    let same = rw s at e in
    f ∙ at_drop_more (λ ks. key_from ks text) ks i d h ∙ rw same refl

pub key_from-none : (ks : List Key) (text : List ℕ) (i : ℕ) → length ks ≤ i → key_from ks text ≡ key_from (drop i ks) text → key_from ks text ≡ None
key_from-none ks text i h f = f ∙ ap (λ ks. key_from ks text) (drop_all i ks h)

pub key_of-all : (ks : List Key) (text : List ℕ) → ks ≡ all_keys → key_from ks text ≡ key_of text
unfolding key_of
key_of-all ks text e = ap (λ ks. key_from ks text) e

-- ---- the tokens so far, and those of the words that are left
abbrev pub Front : List ℕ → List Word → ℕ → List Token → Type 0
Front bytes words i front = tokens_of bytes words ≡ front ++ tokens_from i bytes (drop i words)

pub front_start : (bytes : List ℕ) (words : List Word) → Front bytes words 0 []
front_start bytes words = refl

pub front_more : (bytes : List ℕ) (words : List Word) (i : ℕ) (front : List Token) (d : Word) (token : Token) → i < length words → token ≡ token_of bytes (get_or words i d) i → Front bytes words i front → Front bytes words (i + 1) (front ++ token ∷ [])
front_more bytes words i front d token h t f =
    let step : tokens_from i bytes (drop i words) ≡ token ∷ tokens_from (i + 1) bytes (drop (i + 1) words) =
    at_drop_more (tokens_from i bytes) words i d h ∙ ap (λ x. x ∷ tokens_from (i + 1) bytes (drop (i + 1) words)) (sym t) in
    f ∙ ap (λ xs. front ++ xs) step ∙ sym (append_assoc front (token ∷ []) (tokens_from (i + 1) bytes (drop (i + 1) words)))

pub front_all : (bytes : List ℕ) (words : List Word) (i : ℕ) (front : List Token) → length words ≤ i → Front bytes words i front → front ≡ tokens_of bytes words
front_all bytes words i front h f = sym (f ∙ ap (λ ws. front ++ tokens_from i bytes ws) (drop_all i words h) ∙ append-nil front)

-- ---- a number that is a word

pub read_number-some : (text : List ℕ) (n : ℕ) → size_read text ≡ Some n → (is_number text ≡ true) × (n ≡ number_of text)
read_number-some text n e = by_case (is_number text) (leb (number_of text) greatest) refl refl
  where
    by_case : (a b : Bool) → is_number text ≡ a → leb (number_of text) greatest ≡ b → (is_number text ≡ true) × (n ≡ number_of text)
    by_case true true h k = let f = rw (h, k) at e in (h, cc)
    by_case true false h k = let f = rw (h, k) at e in absurd cc
    by_case false b h k = let f = rw h at e in absurd cc

pub read_number-none : (text : List ℕ) → is_long_number text ≡ false → size_read text ≡ None → is_number text ≡ false
read_number-none text s e = by_case (is_number text) refl
  where
    by_case : (a : Bool) → is_number text ≡ a → is_number text ≡ false
    by_case false h = h
    by_case true h =
        let small = number_of-short text h s in
        let k : leb (number_of text) greatest ≡ true = le-leb (number_of text) greatest (omega (arith, small)) in
        let f = rw (h, k) at e in
        absurd cc

pub symbol_of-number : (text : List ℕ) (n : ℕ) → key_of text ≡ None → size_read text ≡ Some n → symbol.Number n ≡ symbol_of text
symbol_of-number text n k e =
    let r = read_number-some text n e in
    let is = r.0 in
    rw (k, is) (ap symbol.Number r.1)

pub symbol_of-name : (text name : List ℕ) → key_of text ≡ None → size_read text ≡ None → is_long_number text ≡ false → name ≡ text → symbol.Name name ≡ symbol_of text
symbol_of-name text name k e s n =
    let is = read_number-none text s e in
    rw (k, is) (ap symbol.Name n)

-- ---- the word at a place

AllByRecursion-at : (P : Word → Type 0) (words : List Word) (i : ℕ) (d : Word) → AllByRecursion P words → i < length words → P (get_or words i d)
AllByRecursion-at P [] i d a h = absurd (omega arith)
AllByRecursion-at P (w ∷ ws) zero d a h = a.0
AllByRecursion-at P (w ∷ ws) (suc i) d a h = AllByRecursion-at P ws i d a.1 (omega arith)

-- a word of a cut stands in its bytes, at a place that is at least its number
pub word_stands : (bytes : List ℕ) (words : List Word) (i : ℕ) (d : Word) → IsCut bytes words → i < length words → Stands bytes (get_or words i d) × (i ≤ (get_or words i d).at)
word_stands bytes words i d c h = (AllByRecursion-at (Stands bytes) words i d (words_stand bytes words c) h, words_rise bytes words c i d h)
