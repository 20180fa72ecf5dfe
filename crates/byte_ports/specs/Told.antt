-- Which bytes a source tells, and what is answered to them.
use Rattle.std.specs.Prelude.{◌≡◌, ℕ, ◌≤◌, ◌<◌, List, length, Option, None, Some, IfSome, Result, Ok}
use Rattle.std.specs.Io.KnownBytes.{IsAtEnd}
use Rattle.std.specs.declared.alloc.AllocError.{AllocError}
use Rattle.byte_ports.specs.declared.ending.Answer.{Answer}
use Rattle.byte_ports.specs.Ending.{IsOne}

-- the bytes that a source had left, where it tells them
abbrev pub Tells : Option (List ℕ) → List ℕ → Type 0
Tells None bytes = Unit {0}
Tells (Some told) bytes = told ≡ bytes

-- A source that told at most so many bytes was read to its end: by what it had left before and after.
abbrev pub IsReadWithin : ℕ → Option (List ℕ) → Option (List ℕ) → Type 0
IsReadWithin most left_before left_after =
    IfSome left_before (λ bytes. length bytes ≤ most → IsAtEnd left_after)

-- the status and the text that a job may give for some bytes
abbrev pub IsGiven : (List ℕ → Result Answer AllocError → Type 0) → List ℕ → ℕ → List ℕ → Type 0
IsGiven Gives bytes status text =
    (answer : Answer) × Gives bytes (Ok answer) × IsOne answer.status answer.text.items status text

-- What is answered to some bytes: where there are at most so many, what the job gives for them; where there are more, this text, with
-- status 4.
pub record IsAnswerWithin (most : ℕ) (long : List ℕ)
    (Gives : List ℕ → Result Answer AllocError → Type 0) (bytes : List ℕ) (status : ℕ)
    (text : List ℕ) : Type 0 where
  pub given : length bytes ≤ most → IsGiven Gives bytes status text
  pub too_many : most < length bytes → IsOne 4 long status text

-- what is answered to the bytes that a source tells
abbrev pub IsAnswerFrom : Option (List ℕ) → ℕ → List ℕ
    → (List ℕ → Result Answer AllocError → Type 0) → ℕ → List ℕ → Type 0
IsAnswerFrom told most long Gives status text =
    (bytes : List ℕ) × Tells told bytes × IsAnswerWithin most long Gives bytes status text
