-- The words of a line, and what is left of them.
use Rattle.std.specs.Prelude.{◌≡◌, ℕ, Bool, not, ◌==◌, ◌||◌, List, [], ◌∷◌, ◌++◌, Option, Some, None, Result, Ok, Err}
use Rattle.std.specs.Borrow.{Bor}
use Rattle.std.specs.List.{slice_split, join_with_byte, list_all}
use Rattle.report_lines.specs.declared.words.Words.{Words}
use Rattle.report_lines.specs.declared.words.ReadError.{ReadError}
use Rattle.report_lines.specs.declared.words.ReadError.TheVariants as errors

-- the words of a line stand between its spaces
abbrev pub parts : List ℕ → List (List ℕ)
parts bytes = slice_split (λ b. b == 32) bytes

-- words with a space between them
abbrev pub joined : List (List ℕ) → List ℕ
joined words = join_with_byte 32 words

-- the text of a line: its words, and a line feed
abbrev pub line_text : List (List ℕ) → List ℕ
line_text words = joined words ++ 10 ∷ []

-- words with a space before each
abbrev pub spaced : List (List ℕ) → List ℕ
spaced [] = []
spaced (w ∷ ws) = 32 ∷ w ++ spaced ws

-- a text without a space and without a line feed
abbrev pub is_part : List ℕ → Bool
is_part w = list_all (λ b. not ((b == 32) || (b == 10))) w

-- the words of what is left of a line, and none where it is over
abbrev pub parts_left : Option (Bor (List ℕ)) → List (List ℕ)
parts_left None = []
parts_left (Some rest) = parts rest.now

-- the words of a line that are left
abbrev pub left : Words → List (List ℕ)
left w = parts_left w.rest

-- the next word and those behind it
abbrev pub next_of : List (List ℕ) → Option (List ℕ × List (List ℕ))
next_of [] = None
next_of (w ∷ ws) = Some (w, ws)

-- What a function answers, seen by a view, is what reading gives, unless memory runs out.
abbrev pub Fails : {Y : Type 0} → ReadError → Option Y → Type 0
Fails errors.Memory read = Unit {0}
Fails errors.Form read = read ≡ None

-- The code gives what the definition reads, or fails where that does.
abbrev pub Gives : {X Y : Type 0} → (X → Y) → Result X ReadError → Option Y → Type 0
Gives view (Ok x) read = read ≡ Some (view x)
Gives view (Err e) read = Fails e read
