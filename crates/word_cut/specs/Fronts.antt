-- What stands at the front of some bytes, as the code goes through them: a gap, a run of bytes that pass a test, a word.
use Rattle.std.specs.Prelude.{◌≡◌, ℕ, zero, suc, ◌+◌, ◌≤◌, ◌<◌, Option, Some, None, Result, Ok, Err, Bool, true, false, ◌==◌, ◌||◌, ◌&&◌, List, [], ◌∷◌, ◌++◌, length, take, drop}
use Rattle.std.specs.List.{list_all}
use Rattle.word_cut.specs.declared.word.Word.{Word}
use Rattle.word_cut.specs.declared.cutting.CutRefused.{CutRefused}
use Rattle.word_cut.specs.declared.cutting.CutRefused.TheVariants as refusals
use Rattle.word_cut.specs.Texts.{is_space, is_double_sign, is_word, is_long_name, is_long_number, kind_of}
use Rattle.word_cut.specs.Words.{is_gap, IsLongest, Next, BeginsNoWord, Begins}

-- the first byte, if there is one, fails a test
abbrev pub StopsAt : (ℕ → Bool) → List ℕ → Type 0
StopsAt test [] = Unit {0}
StopsAt test (b ∷ bs) = test b ≡ false

-- a byte that goes on a gap: # or white space
abbrev pub goes_on_gap : ℕ → Bool
goes_on_gap b = (b == 35) || is_space b

-- the first n bytes are a gap, and no longer front is one
pub record IsGapFront (bytes : List ℕ) (n : ℕ) : Type 0 where
  pub within : n ≤ length bytes
  pub gap : is_gap false (take n bytes) (drop n bytes) ≡ true
  pub stops : StopsAt goes_on_gap (drop n bytes)

-- the first n bytes pass a test, and the next one, if there is one, does not
pub record IsRun (test : ℕ → Bool) (bytes : List ℕ) (n : ℕ) : Type 0 where
  pub within : n ≤ length bytes
  pub pass : list_all test (take n bytes) ≡ true
  pub stops : StopsAt test (drop n bytes)

-- a byte and the next one, if there is one, are a sign
abbrev pub double_at : ℕ → List ℕ → Bool
double_at b [] = false
double_at b (c ∷ cs) = is_double_sign b && (c == 61)

-- the first n bytes are the longest word there, or n is 0 and no word begins there
abbrev pub IsWordFront : List ℕ → ℕ → Type 0
IsWordFront bytes zero = (text rest : List ℕ) → bytes ≡ text ++ rest → is_word text ≡ false
IsWordFront bytes (suc n) =
    (suc n ≤ length bytes) × IsLongest (take (suc n) bytes) (drop (suc n) bytes)

-- a word, short enough, stands at the front
pub record IsWordHere (bytes : List ℕ) (at line : ℕ) (word : Word) : Type 0 where
  pub within : word.len ≤ length bytes
  pub some : 0 < word.len
  pub longest : IsLongest (take word.len bytes) (drop word.len bytes)
  pub short_name : is_long_name (take word.len bytes) ≡ false
  pub short_number : is_long_number (take word.len bytes) ≡ false
  pub kind : word.kind ≡ kind_of (take word.len bytes)
  pub place : word.at ≡ at
  pub in_line : word.line ≡ line

-- what is at a place and why no word is
abbrev pub IsStuck : List ℕ → ℕ → CutRefused → Type 0
IsStuck bytes at (refusals.Letter p) = (p ≡ at) × BeginsNoWord bytes
IsStuck bytes at (refusals.TooLongName p) = (p ≡ at) × Begins is_long_name bytes
IsStuck bytes at (refusals.TooLongNumber p) = (p ≡ at) × Begins is_long_number bytes
IsStuck bytes at refusals.Memory = ⊥

-- what a word's reader gives: the word at the front of these bytes, or why there is none
abbrev pub GivesWord : List ℕ → ℕ → ℕ → Result Word CutRefused → Type 0
GivesWord bytes at line (Ok word) = IsWordHere bytes at line word
GivesWord bytes at line (Err why) = IsStuck bytes at why

-- a gap stands from a place on, and rest behind it
pub record Behind (bytes : List ℕ) (from : ℕ) (at : ℕ) (rest : List ℕ) : Type 0 where
  pub gap : List ℕ
  pub split : drop from bytes ≡ gap ++ rest
  pub between : is_gap false gap rest ≡ true
  pub place : at + length rest ≡ length bytes

-- the next word from a place on, if there is one
pub record IsNextWord (bytes : List ℕ) (at line : ℕ) (word : Word) : Type 0 where
  pub next : Next at line (drop at bytes) word (drop (word.at + word.len) bytes)
  pub some : at < word.at + word.len
  pub within : word.at + word.len ≤ length bytes
  pub lines : word.line ≤ word.at + 1

-- what a reader of the next word gives: the word behind a gap, nothing where only a gap is left, or why there is no word
abbrev pub GivesNext : List ℕ → ℕ → ℕ → Result (Option Word) CutRefused → Type 0
GivesNext bytes at line (Ok (Some word)) = IsNextWord bytes at line word
GivesNext bytes at line (Ok None) = is_gap false (drop at bytes) [] ≡ true
GivesNext bytes at line (Err why) =
    (place : ℕ) × (rest : List ℕ) × Behind bytes at place rest × IsStuck rest place why
