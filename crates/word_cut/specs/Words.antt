-- The words of some bytes, and the first place where there are none.
use Rattle.std.specs.Prelude.{◌≡◌, ℕ, ◌+◌, ◌≤◌, take, drop, Bool, true, false, ◌==◌, ◌&&◌, ◌||◌, not, if◌then◌else◌, List, [], ◌∷◌, ◌++◌, length, count_by}
use Rattle.word_cut.specs.declared.word.Word.{Word}
use Rattle.word_cut.specs.declared.cutting.CutRefused.{CutRefused}
use Rattle.word_cut.specs.declared.cutting.CutRefused.TheVariants as refusals
use Rattle.word_cut.specs.Texts.{is_space, is_empty, is_word, kind_of, is_long_name, is_long_number}

-- Bytes that may stand between words: white space, and comments, each from a # to before the next line feed or to the
-- end. The first argument says whether a comment is open before them; rest is what follows them.
abbrev pub is_gap : Bool → List ℕ → List ℕ → Bool
is_gap commented [] rest = not commented || is_empty rest
is_gap true (b ∷ bs) rest = is_gap (not (b == 10)) bs rest
is_gap false (b ∷ bs) rest =
    if b == 35 then is_gap true bs rest else (is_space b && is_gap false bs rest)

-- how many lines end in some bytes
abbrev pub line_feeds : List ℕ → ℕ
line_feeds bytes = count_by (λ b. b == 10) bytes

-- text is the longest word at the front of text ++ rest
pub record IsLongest (text rest : List ℕ) : Type 0 where
  pub is_one : is_word text ≡ true
  pub no_longer : (more after : List ℕ) → rest ≡ more ++ after → is_word (text ++ more) ≡ true
      → more ≡ []

-- The bytes from a place on, in a line, are a gap, then the longest word there, then rest; and word says so.
pub record Next (at line : ℕ) (bytes : List ℕ) (word : Word) (rest : List ℕ) : Type 0 where
  pub gap : List ℕ
  pub text : List ℕ
  pub split : bytes ≡ gap ++ (text ++ rest)
  pub between : is_gap false gap (text ++ rest) ≡ true
  pub longest : IsLongest text rest
  pub short_name : is_long_name text ≡ false
  pub short_number : is_long_number text ≡ false
  pub kind : word.kind ≡ kind_of text
  pub place : word.at ≡ at + length gap
  pub len : word.len ≡ length text
  pub in_line : word.line ≡ line + line_feeds gap

-- The bytes from a place on, in a line, are these words with gaps before each and a gap behind the last, then rest.
abbrev pub Leaves : ℕ → ℕ → List ℕ → List Word → List ℕ → Type 0
Leaves at line bytes [] rest =
    (gap : List ℕ) × (bytes ≡ gap ++ rest) × (is_gap false gap rest ≡ true)
Leaves at line bytes (w ∷ ws) rest =
    (after : List ℕ) × Next at line bytes w after × Leaves (w.at + w.len) w.line after ws rest

-- The bytes are these words and gaps, and nothing else. Places count from 0, lines from 1.
abbrev pub IsCut : List ℕ → List Word → Type 0
IsCut bytes words = Leaves 0 1 bytes words []

-- at is the place of rest, where what stands before it is words and gaps
abbrev pub IsReached : List ℕ → ℕ → List ℕ → Type 0
IsReached bytes at rest =
    (words : List Word) × Leaves 0 1 bytes words rest × (at + length rest ≡ length bytes)

-- a byte stands at the front that is in no gap and begins no word
pub record BeginsNoWord (bytes : List ℕ) : Type 0 where
  pub first : ℕ
  pub more : List ℕ
  pub is : bytes ≡ first ∷ more
  pub no_gap : ((first == 35) || is_space first) ≡ false
  pub no_word : (text rest : List ℕ) → bytes ≡ text ++ rest → is_word text ≡ false

-- the longest word at the front passes a test
pub record Begins (test : List ℕ → Bool) (bytes : List ℕ) : Type 0 where
  pub text : List ℕ
  pub rest : List ℕ
  pub is : bytes ≡ text ++ rest
  pub longest : IsLongest text rest
  pub passes : test text ≡ true

-- The first place where the bytes are no words and gaps, and why.
abbrev pub IsRefused : List ℕ → CutRefused → Type 0
IsRefused bytes (refusals.Letter at) = (rest : List ℕ) × IsReached bytes at rest × BeginsNoWord rest
IsRefused bytes (refusals.TooLongName at) =
    (rest : List ℕ) × IsReached bytes at rest × Begins is_long_name rest
IsRefused bytes (refusals.TooLongNumber at) =
    (rest : List ℕ) × IsReached bytes at rest × Begins is_long_number rest
IsRefused bytes refusals.Memory = Unit {0}

-- the bytes of a word
abbrev pub text_of : List ℕ → Word → List ℕ
text_of bytes word = take word.len (drop word.at bytes)

-- a word that stands in some bytes
pub record Stands (bytes : List ℕ) (word : Word) : Type 0 where
  pub within : word.at + word.len ≤ length bytes
  pub is_one : is_word (text_of bytes word) ≡ true
  pub kind : word.kind ≡ kind_of (text_of bytes word)
  pub short_name : is_long_name (text_of bytes word) ≡ false
  pub short_number : is_long_number (text_of bytes word) ≡ false
