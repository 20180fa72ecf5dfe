-- Readers, which mirror the code: from words to a value and the words after it, or how many words are left where reading stops.
use Rattle.std.specs.Prelude.{ℕ, zero, suc, Bool, if◌then◌else◌, List, [], ◌∷◌, length, Option, Some, None, Result, Ok, Err, ◌⊎◌}
use Rattle.std.proofs.Common.{inl, inr}
use Rattle.parser_combinators.specs.declared.token.Key.{Key}
use Rattle.parser_combinators.specs.declared.token.Key.TheVariants as keys
use Rattle.parser_combinators.specs.declared.token.Token.{Token}
use Rattle.parser_combinators.specs.declared.token.Kind.{Kind}
use Rattle.parser_combinators.specs.Words.{next, seen, kind_of, is_key}

-- What a reader gives: a value and the words that are left, or the number of words that were left where none goes on.
abbrev pub Read : Type 0 → Type 0
Read A = Result (A × List Token) ℕ

infixl 10 ◌>>=◌
-- goes on with what was read, or stops where reading failed
abbrev pub ◌>>=◌ : {A B : Type 0} → Result A ℕ → (A → Result B ℕ) → Result B ℕ
(Ok x) >>= f = f x
(Err e) >>= f = Err e

-- reads, and sees what was read as another value
abbrev pub mapped : {A B : Type 0} → (A → B) → (List Token → Read A) → List Token → Read B
mapped f read ws = read ws >>= λ x. Ok (f x.0, x.1)

-- reads one part, and then another
abbrev pub both : {A B : Type 0} → (List Token → Read A) → (List Token → Read B) → List Token
    → Read (A × B)
both r s ws = r ws >>= λ x. s x.1 >>= λ y. Ok ((x.0, y.0), y.1)

-- reads the one where the next word begins it, and else the other
abbrev pub either : {A B : Type 0} → (Kind → Bool) → (List Token → Read A) → (List Token → Read B)
    → List Token → Read (A ⊎ B)
either starts r s ws = if starts (next (seen ws)) then mapped inl r ws else mapped inr s ws

-- reads a part where the next word begins it
abbrev pub perhaps : {A : Type 0} → (Kind → Bool) → (List Token → Read A) → List Token
    → Read (Option A)
perhaps starts r ws = if starts (next (seen ws)) then mapped Some r ws else Ok (None, ws)

-- reads a part that the next word has to begin
abbrev pub only : {A : Type 0} → (Kind → Bool) → (List Token → Read A) → List Token → Read A
only starts r ws = if starts (next (seen ws)) then r ws else Err (length ws)

-- as often as a word begins one, at most n times
unfoldable pub times : {A : Type 0} → (Kind → Bool) → (List Token → Read A) → ℕ → List Token
    → Read (List A)
times starts r zero ws = Ok ([], ws)
times starts r (suc n) ws =
    if starts (next (seen ws)) then (r ws >>= λ x. times starts r n x.1 >>= λ y. Ok
    (x.0 ∷ y.0, y.1))
    else Ok ([], ws)

-- each one takes a word, so this is as often as there are some
abbrev pub many : {A : Type 0} → (Kind → Bool) → (List Token → Read A) → List Token → Read (List A)
many starts r ws = times starts r (length ws) ws

-- one word of the right kind
abbrev pub word_at : {A : Type 0} → (Kind → Bool) → (Token → A) → List Token → Read A
word_at right make [] = Err 0
word_at right make (t ∷ ts) =
    if right (kind_of t.symbol) then Ok (make t, ts) else Err (suc (length ts))

-- a reserved name or a sign, with its place and without
abbrev pub key_at : Key → List Token → Read ℕ
key_at k = word_at (is_key k) (λ t. t.word)

-- reads this sign
abbrev pub sign_at : Key → List Token → Read (Unit {0})
sign_at k = word_at (is_key k) (λ t. tt)

-- the place of the next word, 0 where none is left
abbrev pub place_of : List Token → ℕ
place_of [] = 0
place_of (t ∷ ts) = t.word

-- with the place of the first word
abbrev pub placed : {A : Type 0} → (List Token → Read A) → List Token → Read (ℕ × A)
placed r ws = r ws >>= λ x. Ok ((place_of ws, x.0), x.1)

-- the second of two
abbrev pub second : {A B : Type 0} → A × B → B
second x = x.1

-- the first in front of the others
abbrev pub cons : {A : Type 0} → A × List A → List A
cons x = x.0 ∷ x.1

-- a comma and one more
abbrev pub one_more : {A : Type 0} → (List Token → Read A) → List Token → Read A
one_more r = mapped second (both (sign_at keys.Comma) r)

-- one, and more with commas between
abbrev pub listed_at : {A : Type 0} → (List Token → Read A) → List Token → Read (List A)
listed_at r = mapped cons (both r (many (is_key keys.Comma) (one_more r)))

-- the list, empty where there is none
abbrev pub list_of : {A : Type 0} → Option (List A) → List A
list_of None = []
list_of (Some xs) = xs

-- what stands in brackets
abbrev pub between : {A : Type 0} → Unit {0} × (A × Unit {0}) → A
between x = x.1.0

-- some in brackets, or none without brackets
abbrev pub group_at : {A : Type 0} → (List Token → Read A) → List Token → Read (List A)
group_at r =
    mapped list_of
    (perhaps (is_key keys.Open) (mapped between
    (both (sign_at keys.Open) (both (listed_at r) (sign_at keys.Close)))))
