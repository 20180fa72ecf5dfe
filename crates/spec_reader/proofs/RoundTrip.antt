-- What is laid out is cut into the same words.
use Rattle.std.proofs.Common.{◌≡◌, ℕ, zero, suc, ◌+◌, ◌<◌, ◌≤◌, ◌^◌, Bool, true, false, not, ◌&&◌, ◌||◌, cond, codes, leb, List, [], ◌∷◌, ◌++◌, length, take, drop, map, ◌⊎◌, inl, inr, refl, sym, ap, subst, ◌∙◌, append_assoc, length-append, arith}
use Rattle.std.specs.Prelude.{◌==◌}
use Rattle.std.specs.List.{AllByRecursion, list_all, list_any}
use Rattle.std.specs.Str.{bytes_eq}
use Rattle.std.specs.Fmt.{decimal}
use Rattle.std.proofs.lemmas.Bool.{and_from, and_parts, cases_Bool, false≢true, lt-leb, ltb-true, not-true, or_cases}
use Rattle.std.proofs.lemmas.Bool.Decides.{nat_tests}
use Rattle.std.proofs.lemmas.Fmt.{length-decimal-le_wide}
use Rattle.std.proofs.lemmas.List.Folds.{list_all-append}
use Rattle.std.proofs.Math.Seq.{drop-append_seam, take-append_seam}
use Rattle.word_cut.specs.declared.word.Word.{Word}
use Rattle.word_cut.specs.Texts.{is_letter, is_digit, is_name_byte, is_name, is_number, is_sign, is_single_sign, is_double_sign, is_space, is_empty, is_word, is_reserved, kind_of, is_long_name, is_long_number}
use Rattle.word_cut.specs.Words.{is_gap, line_feeds, IsLongest, Next, Leaves, IsCut}
use Rattle.word_cut.specs.Words as cuts
use Rattle.word_cut.proofs.Spelled.{decimal_writes}
use Rattle.word_cut.proofs.Unique.{cut_unique}
use Rattle.parser_combinators.specs.declared.token.Key.{Key}
use Rattle.parser_combinators.specs.declared.token.Key.TheVariants as keys
use Rattle.parser_combinators.specs.declared.token.Symbol.{Symbol}
use Rattle.parser_combinators.specs.declared.token.Symbol.TheVariants as symbol
use Rattle.parser_combinators.specs.declared.token.Version.{Version}
use Rattle.parser_combinators.specs.Words.{plain, is_first, observes_text}
use Rattle.parser_combinators.specs.Texts.{key_text, text_of, IsWord, AreWords}
use Rattle.spec_trees.specs.Form.{TreeForm}
use Rattle.spec_trees.specs.Spelling.{tree, spelling}
use Rattle.spec_trees.specs.Trees.{IsTree, SameTree}
use Rattle.spec_trees.specs.Layout.{begins_line, begins_indented, before, behind, laid_out, text_of_tree}
use Rattle.spec_trees.specs.Place.{texts_of, IsRead}
use Rattle.spec_reader.proofs.Bytes.{one_spelling}

-- ---- no word has white space in it

not_space : ℕ → Bool
not_space b = not (is_space b)

letter_not_space : (b : ℕ) → is_letter b ≡ true → not_space b ≡ true
unfolding not_space
letter_not_space b h = grind (arith, nat_tests)

digit_not_space : (b : ℕ) → is_digit b ≡ true → not_space b ≡ true
unfolding not_space
digit_not_space b h = grind (arith, nat_tests)

name_byte_not_space : (b : ℕ) → is_name_byte b ≡ true → not_space b ≡ true
unfolding not_space
name_byte_not_space b h = grind (arith, nat_tests)

single_not_space : (b : ℕ) → is_single_sign b ≡ true → not_space b ≡ true
unfolding not_space
single_not_space b h = grind (arith, nat_tests)

double_not_space : (b : ℕ) → is_double_sign b ≡ true → not_space b ≡ true
unfolding not_space
double_not_space b h = grind (arith, nat_tests)

equal_not_space : (b : ℕ) → (b == 61) ≡ true → not_space b ≡ true
unfolding not_space
equal_not_space b h = grind (arith, nat_tests)

all_through : (p : ℕ → Bool) → ((b : ℕ) → p b ≡ true → not_space b ≡ true) → (bs : List ℕ) → list_all p bs ≡ true → list_all not_space bs ≡ true
all_through p f [] h = refl
all_through p f (b ∷ bs) h = and_from (not_space b) (list_all not_space bs) (f b (and_parts (p b) (list_all p bs) h).0) (all_through p f bs (and_parts (p b) (list_all p bs) h).1)

name_dense : (text : List ℕ) → is_name text ≡ true → list_all not_space text ≡ true
name_dense [] h = refl
name_dense (b ∷ bs) h = and_from (not_space b) (list_all not_space bs) (letter_not_space b (and_parts (is_letter b) (list_all is_name_byte bs) h).0) (all_through is_name_byte name_byte_not_space bs (and_parts (is_letter b) (list_all is_name_byte bs) h).1)

number_dense : (text : List ℕ) → is_number text ≡ true → list_all not_space text ≡ true
number_dense [] h = refl
number_dense (b ∷ bs) h = by (b == 48) refl h
  where
    alone : (bs : List ℕ) → is_empty bs ≡ true → list_all not_space bs ≡ true
    alone [] k = refl
    alone (c ∷ cs) k = absurd cc

    zero_not_space : (b == 48) ≡ true → not_space b ≡ true
    zero_not_space e = digit_not_space b (grind (arith, nat_tests))

    by : (z : Bool) → (b == 48) ≡ z → cond z (is_empty bs) (is_digit b && list_all is_digit bs) ≡ true → list_all not_space (b ∷ bs) ≡ true
    by true e k = and_from (not_space b) (list_all not_space bs) (zero_not_space e) (alone bs k)
    by false e k = and_from (not_space b) (list_all not_space bs) (digit_not_space b (and_parts (is_digit b) (list_all is_digit bs) k).0) (all_through is_digit digit_not_space bs (and_parts (is_digit b) (list_all is_digit bs) k).1)

sign_dense : (text : List ℕ) → is_sign text ≡ true → list_all not_space text ≡ true
sign_dense [] h = refl
sign_dense (b ∷ []) h = and_from (not_space b) true (single_not_space b h) refl
sign_dense (b ∷ c ∷ []) h = and_from (not_space b) (not_space c && true) (double_not_space b (and_parts (is_double_sign b) (c == 61) h).0) (and_from (not_space c) true (equal_not_space c (and_parts (is_double_sign b) (c == 61) h).1) refl)
sign_dense (b ∷ c ∷ d ∷ bs) h = absurd cc

word_dense : (text : List ℕ) → is_word text ≡ true → list_all not_space text ≡ true
word_dense text h = elim (or_cases (is_name text) (is_number text || is_sign text) h) [
  | inl k ↦ name_dense text k
  | inr k ↦ elim (or_cases (is_number text) (is_sign text) k) [
    | inl l ↦ number_dense text l
    | inr l ↦ sign_dense text l
  ]
]

-- behind a word white space stands

SpaceFirst : List ℕ → Type 0
SpaceFirst [] = ⊥
SpaceFirst (b ∷ bs) = is_space b ≡ true

none_longer : (text rest : List ℕ) → is_word text ≡ true → SpaceFirst rest → IsLongest text rest
unfolding not_space SpaceFirst
none_longer text rest one s = record { is_one = one; no_longer = λ more after e h. by more after e h }
  where
    space_in : (xs ys : List ℕ) → xs ≡ ys → SpaceFirst xs → SpaceFirst ys
    space_in xs ys e h = subst SpaceFirst e h

    by : (more after : List ℕ) → rest ≡ more ++ after → is_word (text ++ more) ≡ true → more ≡ []
    by [] after e h = refl
    by (m ∷ ms) after e h =
        let dense = word_dense (text ++ m ∷ ms) h in
        let parts : (list_all not_space text && list_all not_space (m ∷ ms)) ≡ true = sym (list_all-append not_space text (m ∷ ms)) ∙ dense in
        let there = (and_parts (not_space m) (list_all not_space ms) (and_parts (list_all not_space text) (list_all not_space (m ∷ ms)) parts).1).0 in
        let space : is_space m ≡ true = space_in rest ((m ∷ ms) ++ after) e s in
        let no : false ≡ true = rw space at there in
        absurd (false≢true no)

-- ---- each word can be cut

record Cuts (text : List ℕ) : Type 0 where
  one : is_word text ≡ true
  name : is_long_name text ≡ false
  number : is_long_number text ≡ false

key_cuts : (k : Key) → Cuts (key_text k)
key_cuts keys.Open = record { one = refl; name = refl; number = refl }
key_cuts keys.Close = record { one = refl; name = refl; number = refl }
key_cuts keys.Comma = record { one = refl; name = refl; number = refl }
key_cuts keys.Colon = record { one = refl; name = refl; number = refl }
key_cuts keys.Dot = record { one = refl; name = refl; number = refl }
key_cuts keys.Star = record { one = refl; name = refl; number = refl }
key_cuts keys.Plus = record { one = refl; name = refl; number = refl }
key_cuts keys.Minus = record { one = refl; name = refl; number = refl }
key_cuts keys.Equal = record { one = refl; name = refl; number = refl }
key_cuts keys.Unequal = record { one = refl; name = refl; number = refl }
key_cuts keys.Less = record { one = refl; name = refl; number = refl }
key_cuts keys.AtMost = record { one = refl; name = refl; number = refl }
key_cuts keys.Greater = record { one = refl; name = refl; number = refl }
key_cuts keys.AtLeast = record { one = refl; name = refl; number = refl }
key_cuts keys.Cise = record { one = refl; name = refl; number = refl }
key_cuts keys.Sort = record { one = refl; name = refl; number = refl }
key_cuts keys.Const = record { one = refl; name = refl; number = refl }
key_cuts keys.Relation = record { one = refl; name = refl; number = refl }
key_cuts keys.Counter = record { one = refl; name = refl; number = refl }
key_cuts keys.Initially = record { one = refl; name = refl; number = refl }
key_cuts keys.Token = record { one = refl; name = refl; number = refl }
key_cuts keys.Conflict = record { one = refl; name = refl; number = refl }
key_cuts keys.Invariant = record { one = refl; name = refl; number = refl }
key_cuts keys.Operation = record { one = refl; name = refl; number = refl }
key_cuts keys.End = record { one = refl; name = refl; number = refl }
key_cuts keys.Requires = record { one = refl; name = refl; number = refl }
key_cuts keys.Insert = record { one = refl; name = refl; number = refl }
key_cuts keys.Remove = record { one = refl; name = refl; number = refl }
key_cuts keys.Add = record { one = refl; name = refl; number = refl }
key_cuts keys.Set = record { one = refl; name = refl; number = refl }
key_cuts keys.Takes = record { one = refl; name = refl; number = refl }
key_cuts keys.When = record { one = refl; name = refl; number = refl }
key_cuts keys.Forall = record { one = refl; name = refl; number = refl }
key_cuts keys.Exists = record { one = refl; name = refl; number = refl }
key_cuts keys.True = record { one = refl; name = refl; number = refl }
key_cuts keys.False = record { one = refl; name = refl; number = refl }
key_cuts keys.Not = record { one = refl; name = refl; number = refl }
key_cuts keys.And = record { one = refl; name = refl; number = refl }
key_cuts keys.Or = record { one = refl; name = refl; number = refl }
key_cuts keys.Implies = record { one = refl; name = refl; number = refl }
key_cuts keys.Int = record { one = refl; name = refl; number = refl }

name_not_number : (text : List ℕ) → is_name text ≡ true → is_number text ≡ false
name_not_number [] h = absurd cc
name_not_number (b ∷ bs) h =
    let letter = (and_parts (is_letter b) _ h).0 in
    let zero_not : (b == 48) ≡ false = grind (arith, nat_tests) in
    let digit_not : is_digit b ≡ false = grind (arith, nat_tests) in
    rw (zero_not, digit_not) refl

number_not_name : (text : List ℕ) → is_number text ≡ true → is_name text ≡ false
number_not_name text h = elim (cases_Bool (is_name text)) [
  | inl e ↦ absurd (false≢true (sym (name_not_number text e) ∙ h))
  | inr e ↦ e
]

name_cuts : (text : List ℕ) → IsWord (symbol.Name text) → Cuts text
name_cuts text h =
    let name = (and_parts (is_name text) _ h).0 in
    let short = not-true (is_long_name text) ((and_parts (not (is_reserved text)) (not (is_long_name text)) (and_parts (is_name text) _ h).1).1) in
    let number = name_not_number text name in
    record { one = rw name refl; name = short; number = rw number refl }

number_cuts : (n : ℕ) → IsWord (symbol.Number n) → Cuts (decimal n)
number_cuts n h =
    let small : n < 100000000000000000000000000000000000000 = ltb-true n 100000000000000000000000000000000000000 h in
    let number = (decimal_writes n (omega arith)).0 in
    let name = number_not_name (decimal n) number in
    let few = length-decimal-le_wide 38 n (omega arith) small (omega arith) in
    let short : leb 39 (length (decimal n)) ≡ false = lt-leb 39 (length (decimal n)) (omega arith) in
    record { one = rw (name, number) refl; name = rw name refl; number = rw (number, short) refl }

word_cuts : (s : Symbol) → IsWord s → Cuts (text_of s)
word_cuts (symbol.Name text) h = name_cuts text h
word_cuts (symbol.Number n) h = number_cuts n h
word_cuts (symbol.Key k) h = key_cuts k

-- ---- what stands between words is a gap

Gap : List ℕ → Type 0
Gap gap = ((rest : List ℕ) → is_gap false gap rest ≡ true) × ((rest : List ℕ) → SpaceFirst (gap ++ rest))

gap_line : Gap (codes "\n")
unfolding Gap SpaceFirst
gap_line = (λ rest. refl, λ rest. refl)

gap_indented : Gap (codes "\n  ")
unfolding Gap SpaceFirst
gap_indented = (λ rest. refl, λ rest. refl)

gap_one : Gap (codes " ")
unfolding Gap SpaceFirst
gap_one = (λ rest. refl, λ rest. refl)

chosen_gap : (b : Bool) (xs ys : List ℕ) → Gap xs → Gap ys → Gap (cond b xs ys)
chosen_gap true xs ys g h = g
chosen_gap false xs ys g h = h

before_gap : (v : Version) (s : Symbol) → Gap (before v s)
before_gap v (symbol.Key k) = chosen_gap (begins_line k) (codes "\n") (cond (begins_indented k) (codes "\n  ") (codes " ")) gap_line (chosen_gap (begins_indented k) (codes "\n  ") (codes " ") gap_indented gap_one)
before_gap v (symbol.Name text) = chosen_gap (not (is_first v) && bytes_eq text observes_text) (codes "\n  ") (codes " ") gap_indented gap_one
before_gap v (symbol.Number n) = gap_one

space_behind : (v : Version) (ss : List Symbol) → SpaceFirst (behind v ss)
unfolding Gap SpaceFirst
space_behind v [] = refl
space_behind v (s ∷ ss) = (before_gap v s).1 (text_of s ++ behind v ss)

-- ---- the words of what is laid out

word_at : ℕ → ℕ → Symbol → Word
word_at at line s = record { kind = kind_of (text_of s); at = at; len = length (text_of s); line = line }

words_behind : Version → ℕ → ℕ → List Symbol → List Word
words_behind v at line [] = []
words_behind v at line (s ∷ ss) = word_at (at + length (before v s)) (line + line_feeds (before v s)) s ∷ words_behind v (at + length (before v s) + length (text_of s)) (line + line_feeds (before v s)) ss

next_word : (v : Version) (at line : ℕ) (gap : List ℕ) (s : Symbol) (ss : List Symbol) → ((rest : List ℕ) → is_gap false gap rest ≡ true) → IsWord s → Next at line (gap ++ (text_of s ++ behind v ss)) (word_at (at + length gap) (line + line_feeds gap) s) (behind v ss)
unfolding word_at
next_word v at line gap s ss g h =
    let c = word_cuts s h in
    record {
      gap = gap;
      text = text_of s;
      split = refl;
      between = g (text_of s ++ behind v ss);
      longest = none_longer (text_of s) (behind v ss) c.one (space_behind v ss);
      short_name = c.name;
      short_number = c.number;
      kind = refl;
      place = refl;
      len = refl;
      in_line = refl;
    }

behind_cut : (v : Version) (at line : ℕ) (ss : List Symbol) → AreWords ss → Leaves at line (behind v ss) (words_behind v at line ss) []
unfolding words_behind word_at Gap
behind_cut v at line [] h = (codes "\n", refl, refl)
behind_cut v at line (s ∷ ss) h = (behind v ss, next_word v at line (before v s) s ss (before_gap v s).0 h.0, behind_cut v (at + length (before v s) + length (text_of s)) (line + line_feeds (before v s)) ss h.1)

text_there : (front text rest : List ℕ) (n : ℕ) → n ≡ length front → take (length text) (drop n (front ++ (text ++ rest))) ≡ text
text_there front text rest n e = ap (λ (k : ℕ). take (length text) (drop k (front ++ (text ++ rest)))) e ∙ ap (take (length text)) (drop-append_seam front (text ++ rest)) ∙ take-append_seam text rest

behind_texts : (v : Version) (bytes front : List ℕ) (at line : ℕ) (ss : List Symbol) → at ≡ length front → bytes ≡ front ++ behind v ss → map (cuts.text_of bytes) (words_behind v at line ss) ≡ map text_of ss
unfolding words_behind word_at
behind_texts v bytes front at line [] e b = refl
behind_texts v bytes front at line (s ∷ ss) e b =
    let gap = before v s in
    let there : bytes ≡ (front ++ gap) ++ (text_of s ++ behind v ss) = b ∙ sym (append_assoc front gap (text_of s ++ behind v ss)) in
    let after : bytes ≡ ((front ++ gap) ++ text_of s) ++ behind v ss = there ∙ sym (append_assoc (front ++ gap) (text_of s) (behind v ss)) in
    let first : at + length gap ≡ length (front ++ gap) = omega (arith, e, length-append front gap) in
    let last : at + length gap + length (text_of s) ≡ length ((front ++ gap) ++ text_of s) = omega (arith, first, length-append (front ++ gap) (text_of s)) in
    let one : cuts.text_of bytes (word_at (at + length gap) (line + line_feeds gap) s) ≡ text_of s = ap (λ (x : List ℕ). take (length (text_of s)) (drop (at + length gap) x)) there ∙ text_there (front ++ gap) (text_of s) (behind v ss) (at + length gap) first in
    let more = behind_texts v bytes ((front ++ gap) ++ text_of s) (at + length gap + length (text_of s)) (line + line_feeds gap) ss last after in
    λ i. one i ∷ more i

words_laid : Version → List Symbol → List Word
words_laid v [] = []
words_laid v (s ∷ ss) = word_at 0 1 s ∷ words_behind v (0 + length (text_of s)) 1 ss

laid_cut : (v : Version) (s : Symbol) (ss : List Symbol) → AreWords (s ∷ ss) → IsCut (laid_out v (s ∷ ss)) (words_laid v (s ∷ ss))
unfolding words_laid word_at
laid_cut v s ss h = (behind v ss, next_word v 0 1 [] s ss (λ rest. refl) h.0, behind_cut v (0 + length (text_of s)) 1 ss h.1)

laid_texts : (v : Version) (s : Symbol) (ss : List Symbol) → map (cuts.text_of (laid_out v (s ∷ ss))) (words_laid v (s ∷ ss)) ≡ map text_of (s ∷ ss)
unfolding words_laid word_at
laid_texts v s ss =
    let one = text_there [] (text_of s) (behind v ss) 0 refl in
    let more = behind_texts v (laid_out v (s ∷ ss)) (text_of s) (0 + length (text_of s)) 1 ss (omega arith) refl in
    λ i. one i ∷ more i

-- ---- trees

pub spelled_cut : (t : TreeForm) → IsTree t → (words : List Word) × IsCut (text_of_tree t) words × (texts_of (text_of_tree t) words ≡ spelling t)
spelled_cut t f = by (plain (tree t)) refl f.1
  where
    by : (ss : List Symbol) → plain (tree t) ≡ ss → AreWords ss → (words : List Word) × IsCut (laid_out t.version ss) words × (texts_of (laid_out t.version ss) words ≡ map text_of ss)
    by [] e h = ([], (codes "\n", refl, refl), refl)
    by (s ∷ ss) e h = (words_laid t.version (s ∷ ss), laid_cut t.version s ss h, laid_texts t.version s ss)

pub spelled_words : (t : TreeForm) (words : List Word) → IsTree t → IsCut (text_of_tree t) words → texts_of (text_of_tree t) words ≡ spelling t
spelled_words t words f c =
    let s = spelled_cut t f in
    ap (texts_of (text_of_tree t)) (cut_unique (text_of_tree t) words s.0 c s.1) ∙ s.2

pub spelled_same : (t u : TreeForm) (words : List Word) → IsTree t → IsCut (text_of_tree t) words → IsRead (text_of_tree t) words u → SameTree u t
spelled_same t u words f c r = one_spelling u t r.0 f (r.1 ∙ spelled_words t words f c)
