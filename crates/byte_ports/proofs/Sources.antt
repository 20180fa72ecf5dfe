-- What is said of the bytes that a source tells, and what is answered to them.
use Rattle.std.proofs.Common.{◌≡◌, ℕ, zero, suc, ◌<◌, List, [], ◌∷◌, length, Option, None, Some, IfSome, Result, Ok, Bool, true, false, refl, subst, ◌≤◌, arith}
use Rattle.std.specs.Prelude.{nat_le}
use Rattle.std.proofs.lemmas.Bool.Decides.{nat_tests}
use Rattle.std.specs.Io.KnownBytes.{IsAtEnd}
use Rattle.std.specs.declared.alloc.AllocError.{AllocError}
use Rattle.byte_ports.specs.declared.ending.Answer.{Answer}
use Rattle.byte_ports.specs.Ports.{Port}
use Rattle.byte_ports.specs.Ending.{EndsIn}
use Rattle.byte_ports.specs.Told.{Tells, IsReadWithin, IsAnswerWithin}
use Rattle.byte_ports.proofs.Endings.{EndsIn-map}

-- some bytes that are more than so many
more_than : (n : ℕ) → (bytes : List ℕ) × (n < length bytes)
more_than zero = (0 ∷ [], omega arith)
more_than (suc n) = let some = more_than n in (0 ∷ some.0, omega (arith, some.1))

-- what is said of bytes that are too many is said of those that a source gives
pub long_told : (n : ℕ) (P : List ℕ → Type 0) (told : Option (List ℕ)) → IfSome told (λ bytes. n < length bytes)
    → ((bytes : List ℕ) → n < length bytes → P bytes) → (bytes : List ℕ) × Tells told bytes × P bytes
long_told n P None h f = let some = more_than n in (some.0, tt, f some.0 some.1)
long_told n P (Some bytes) h f = (bytes, refl, f bytes h)

-- what is said of the bytes that were read is said of those that the source tells
pub read_told : (P : List ℕ → Type 0) (told : Option (List ℕ)) (bytes : List ℕ) → IfSome told (λ given. bytes ≡ given) → P bytes
    → (given : List ℕ) × Tells told given × P given
read_told P None bytes h p = (bytes, tt, p)
read_told P (Some given) bytes h p = (given, refl, subst P h p)

-- A source that is at its end was read to it, and so was one that told too many bytes.
pub read_at_end : (most : ℕ) (before after : Option (List ℕ)) → IsAtEnd after → IsReadWithin most before after
read_at_end most None after e = tt
read_at_end most (Some bytes) after e = λ few. e

pub read_of_many : (most : ℕ) (before after : Option (List ℕ)) → IfSome before (λ bytes. most < length bytes) → IsReadWithin most before after
read_of_many most None after many = tt
read_of_many most (Some bytes) after many = λ few. absurd (omega (arith, many, few))

-- bytes that a source tells, where it tells them
pub some_told : (told : Option (List ℕ)) → (bytes : List ℕ) × Tells told bytes
some_told None = ([], tt)
some_told (Some bytes) = (bytes, refl)

-- what holds of what is given and of the answer to too many holds of the answer
answer_within : (P : ℕ → List ℕ → Type 0) (most : ℕ) (long : List ℕ) (Gives : List ℕ → Result Answer AllocError → Type 0) (bytes : List ℕ)
    → ((answer : Answer) → length bytes ≤ most → Gives bytes (Ok answer) → P answer.status answer.text.items) → (most < length bytes → P 4 long)
    → (status : ℕ) (text : List ℕ) → IsAnswerWithin most long Gives bytes status text → P status text
answer_within P most long Gives bytes given over status text is = at (nat_le (length bytes) most) refl
  where
    at : (b : Bool) → nat_le (length bytes) most ≡ b → P status text
    at true e =
        let within : length bytes ≤ most = grind (arith, nat_tests) in
        let (answer, gives, one) = is.given within in rw (one.0, one.1) (given answer within gives)
    at false e =
        let more : most < length bytes = grind (arith, nat_tests) in
        let one = is.too_many more in rw (one.0, one.1) (over more)

-- a status of an answer is below 6, where those that the job gives are
pub low_within : (most : ℕ) (long : List ℕ) (Gives : List ℕ → Result Answer AllocError → Type 0) (bytes : List ℕ) (status : ℕ) (text : List ℕ)
    → ((answer : Answer) → length bytes ≤ most → Gives bytes (Ok answer) → answer.status < 6) → IsAnswerWithin most long Gives bytes status text → status < 6
low_within most long Gives bytes status text low is = answer_within (λ s t. s < 6) most long Gives bytes low (λ over. omega arith) status text is

-- What was written is said of the bytes that the source tells, where what the job gives for bytes is said of them, and so is the answer to too
-- many.
pub said_from : (told : Option (List ℕ)) (most : ℕ) (long : List ℕ) (Gives : List ℕ → Result Answer AllocError → Type 0) (Said : List ℕ → ℕ → List ℕ → Type 0)
    (status : ℕ) (before after : Port)
    → (bytes : List ℕ) × Tells told bytes × EndsIn (IsAnswerWithin most long Gives bytes) status before after
    → ((bytes : List ℕ) (answer : Answer) → length bytes ≤ most → Gives bytes (Ok answer) → Said bytes answer.status answer.text.items)
    → ((bytes : List ℕ) → most < length bytes → Said bytes 4 long)
    → (bytes : List ℕ) × Tells told bytes × EndsIn (Said bytes) status before after
said_from told most long Gives Said status before after (bytes, tells, ends) given over =
    (bytes, tells, EndsIn-map (IsAnswerWithin most long Gives bytes) (Said bytes) status before after (answer_within (Said bytes) most long Gives bytes (given bytes) (over bytes)) ends)
