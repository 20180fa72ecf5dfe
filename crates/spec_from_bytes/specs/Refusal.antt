-- Which specification some bytes are, why they are none, and the text that says so.
use Rattle.std.specs.Prelude.{◌≡◌, ℕ, ◌<◌, ◌≤◌, List, [], ◌∷◌, length, Ok, Err, codes, decimal}
use Rattle.word_cut.specs.declared.word.Word.{Word}
use Rattle.word_cut.specs.declared.cutting.CutRefused.TheVariants as cutting
use Rattle.word_cut.specs.Words.{IsCut, IsRefused}
use Rattle.spec_trees.specs.Form.{TreeForm}
use Rattle.spec_trees.specs.Place.{IsRead, IsPlace, texts_of}
use Rattle.spec_core.specs.Specification.{Specification}
use Rattle.typing_rules.specs.declared.which.Which.{Which}
use Rattle.typing_rules.specs.declared.which.Which.TheVariants as which
use Rattle.typing_rules.specs.Fault.{Fault, unknown_fault, twice_fault, kind_fault, count_fault, limit_fault}
use Rattle.typing_rules.specs.Items.{typing}
use Rattle.spec_from_bytes.specs.Lines.{line}

-- The bytes are a tree's words, at most 65,536 of them.
pub record IsTreeOf (bytes : List ℕ) (t : TreeForm) : Type 0 where
  pub within : length bytes ≤ 65536
  pub words : List Word
  pub cut : IsCut bytes words
  pub read : IsRead bytes words t

-- The bytes are a tree's words, and the tree declares a specification.
pub record IsReadAs (bytes : List ℕ) (tree : TreeForm) (d : Specification) : Type 0 where
  pub is_tree : IsTreeOf bytes tree
  pub typed : typing tree ≡ Ok d

-- The specification that some bytes are: they are the words of a tree that declares it.
abbrev pub IsSpecificationOf : List ℕ → Specification → Type 0
IsSpecificationOf bytes d = (tree : TreeForm) × IsReadAs bytes tree d

-- Why bytes are no specification: there are too many of them; at a place a byte that begins no word, a name or a number that is too
-- long; a word with which no spelling goes on; a fault of the tree.
pub data Refusal : Type 0 where
  too_long : Refusal
  strange_letter : ℕ → Refusal
  long_name : ℕ → Refusal
  long_number : ℕ → Refusal
  no_reading : ℕ → Refusal
  faulty : Fault → Refusal

-- the bytes are words, no spelling, and the longest front of the words with which a spelling begins has n words
abbrev pub IsUnreadAt : List ℕ → ℕ → Type 0
IsUnreadAt bytes n =
    (words : List Word) × IsCut bytes words × IsPlace (texts_of bytes words) n
    × ((t : TreeForm) → IsRead bytes words t → ⊥)

-- Why these bytes are no specification. At most one of the cases holds.
abbrev pub IsRefusal : List ℕ → Refusal → Type 0
IsRefusal bytes too_long = 65536 < length bytes
IsRefusal bytes (strange_letter at) = (length bytes ≤ 65536) × IsRefused bytes (cutting.Letter at)
IsRefusal bytes (long_name at) = (length bytes ≤ 65536) × IsRefused bytes (cutting.TooLongName at)
IsRefusal bytes (long_number at) =
    (length bytes ≤ 65536) × IsRefused bytes (cutting.TooLongNumber at)
IsRefusal bytes (no_reading n) = (length bytes ≤ 65536) × IsUnreadAt bytes n
IsRefusal bytes (faulty f) = (t : TreeForm) × IsTreeOf bytes t × (typing t ≡ Err f)

-- ---- texts

-- the word of a limit
abbrev pub which_word : Which → List ℕ
which_word which.Sorts = codes "sorts"
which_word which.Constants = codes "constants"
which_word which.Relations = codes "relations"
which_word which.Counters = codes "counters"
which_word which.Tokens = codes "tokens"
which_word which.Conflicts = codes "conflicts"
which_word which.Invariants = codes "invariants"
which_word which.Operations = codes "operations"
which_word which.Parameters = codes "parameters"
which_word which.Variables = codes "variables"
which_word which.Places = codes "places"
which_word which.Requires = codes "requires"
which_word which.Updates = codes "updates"
which_word which.Takes = codes "takes"
which_word which.Observes = codes "observes"
which_word which.Summands = codes "summands"
which_word which.Nodes = codes "nodes"
which_word which.Literal = codes "literal"

-- a word that says what is wrong, a name, and the place of its word
abbrev pub named_words : List ℕ → List ℕ → ℕ → List (List ℕ)
named_words what name word = what ∷ name ∷ codes "word" ∷ decimal word ∷ []

-- the words of a fault: its kind, a name or the limit, and the place of its word
abbrev pub fault_words : Fault → List (List ℕ)
fault_words (unknown_fault name word) = named_words (codes "unknown") name word
fault_words (twice_fault name word) = named_words (codes "twice") name word
fault_words (kind_fault name word) = named_words (codes "kind") name word
fault_words (count_fault name word) = named_words (codes "count") name word
fault_words (limit_fault which number word) =
    codes "limit" ∷ named_words (which_word which) (decimal number) word

-- the words of a refusal: its kind and its place
abbrev pub refusal_words : Refusal → List (List ℕ)
refusal_words too_long = codes "long" ∷ []
refusal_words (strange_letter at) = codes "letter" ∷ codes "at" ∷ decimal at ∷ []
refusal_words (long_name at) = codes "name" ∷ codes "at" ∷ decimal at ∷ []
refusal_words (long_number at) = codes "number" ∷ codes "at" ∷ decimal at ∷ []
refusal_words (no_reading n) = codes "syntax" ∷ codes "word" ∷ decimal n ∷ []
refusal_words (faulty f) = fault_words f

-- the line that is written
abbrev pub refusal_text : Refusal → List ℕ
refusal_text why = line (codes "refused" ∷ codes "specification" ∷ refusal_words why)
