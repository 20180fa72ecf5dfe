-- Words, and what a grammar sees of them.
use Rattle.std.specs.Prelude.{◌≡◌, ℕ, Bool, true, false, if◌then◌else◌, ◌||◌, List, [], ◌∷◌, ◌++◌, codes, length, ◌==◌, nat_lt}
use Rattle.std.specs.List.{AllByRecursion}
use Rattle.std.specs.Str.{bytes_eq}
use Rattle.word_cut.specs.Texts.{longest_name}
use Rattle.parser_combinators.specs.declared.token.Key.{Key}
use Rattle.parser_combinators.specs.declared.token.Key.TheVariants as keys
use Rattle.parser_combinators.specs.declared.token.Symbol.{Symbol}
use Rattle.parser_combinators.specs.declared.token.Symbol.TheVariants as symbol
use Rattle.parser_combinators.specs.declared.token.Token.{Token}
use Rattle.parser_combinators.specs.declared.token.Kind.{Kind}
use Rattle.parser_combinators.specs.declared.token.Kind.TheVariants as kind
use Rattle.parser_combinators.specs.declared.token.Version.{Version}
use Rattle.parser_combinators.specs.declared.token.Version.TheVariants as version
use Rattle.parser_combinators.specs.contracts.token.Key.{the_type}
use denote.Enum.Bare.{sameb}

-- two keys are one
abbrev pub same_key : Key → Key → Bool
same_key a b = sameb the_type a b

-- names that the second version keeps for itself
abbrev pub shared_text : List ℕ
shared_text = codes "shared"

-- the word for a token that is taken alone
abbrev pub exclusive_text : List ℕ
exclusive_text = codes "exclusive"

-- the word of an observes line
abbrev pub observes_text : List ℕ
observes_text = codes "observes"

-- A name has 1 to 32 bytes.
abbrev pub name_kind : List ℕ → Kind
name_kind text =
    if bytes_eq text shared_text then kind.Shared
    else (if bytes_eq text exclusive_text then kind.Exclusive
    else (if bytes_eq text observes_text then kind.Observes
    else (if (length text == 0) || nat_lt longest_name (length text) then kind.Unnamed
    else kind.Name)))

-- 1 and 2 stand apart, since versions are numbered by them
abbrev pub number_kind : ℕ → Kind
number_kind n = if n == 1 then kind.One else (if n == 2 then kind.Two else kind.Number)

-- the kind of a symbol, by which readers choose
abbrev pub kind_of : Symbol → Kind
kind_of (symbol.Name text) = name_kind text
kind_of (symbol.Number n) = number_kind n
kind_of (symbol.Key k) = kind.Key k

-- the kind of the next word
abbrev pub next : List Symbol → Kind
next [] = kind.Nothing
next (s ∷ ss) = kind_of s

-- the symbols of tokens
abbrev pub seen : List Token → List Symbol
seen [] = []
seen (t ∷ ts) = t.symbol ∷ seen ts

-- A word of a spelling, with the numbers that the tree has for its place.
pub record Spelt : Type 0 where
  pub symbol : Symbol
  pub claims : List ℕ

-- without the numbers
abbrev pub plain : List Spelt → List Symbol
plain [] = []
plain (s ∷ ss) = s.symbol ∷ plain ss

-- The words begin with what is spelled, at the places that the tree has, and the rest follows.
abbrev pub Matches : List Spelt → List Token → List Token → Type 0
Matches [] ts rest = ts ≡ rest
Matches (s ∷ ss) [] rest = ⊥
Matches (s ∷ ss) (t ∷ ts) rest =
    (t.symbol ≡ s.symbol) × AllByRecursion (λ w. w ≡ t.word) s.claims × Matches ss ts rest

-- one further number for the place of the first word
abbrev pub with_place : ℕ → List Spelt → List Spelt
with_place w [] = []
with_place w (s ∷ ss) = record { symbol = s.symbol; claims = w ∷ s.claims } ∷ ss

-- a word whose place the tree has, and one whose place it has not
abbrev pub key : Key → ℕ → Spelt
key k w = record { symbol = symbol.Key k; claims = w ∷ [] }

-- a word that claims no place
abbrev pub sign : Key → Spelt
sign k = record { symbol = symbol.Key k; claims = [] }

-- one after the other
abbrev pub each : {A : Type 0} → (A → List Spelt) → List A → List Spelt
each f [] = []
each f (x ∷ xs) = f x ++ each f xs

-- with commas between
abbrev pub listed : {A : Type 0} → (A → List Spelt) → List A → List Spelt
listed f [] = []
listed f (x ∷ xs) = f x ++ each (λ y. sign keys.Comma ∷ f y) xs

-- some in brackets, or none without brackets
abbrev pub group : {A : Type 0} → (A → List Spelt) → List A → List Spelt
group f [] = []
group f (x ∷ xs) = sign keys.Open ∷ (listed f (x ∷ xs) ++ sign keys.Close ∷ [])

-- two lists of one length, related one by one
abbrev pub AllSame : {A : Type 0} → (A → A → Type 0) → List A → List A → Type 0
AllSame S [] [] = Unit {0}
AllSame S [] (y ∷ ys) = ⊥
AllSame S (x ∷ xs) [] = ⊥
AllSame S (x ∷ xs) (y ∷ ys) = S x y × AllSame S xs ys

-- there is one at least
abbrev pub NotEmpty : {A : Type 0} → List A → Type 0
NotEmpty [] = ⊥
NotEmpty (x ∷ xs) = Unit {0}

-- the first version
abbrev pub is_first : Version → Bool
is_first version.First = true
is_first version.Second = false

-- this key
abbrev pub is_key : Key → Kind → Bool
is_key k (kind.Key j) = same_key j k
is_key k _ = false

-- a name that the version leaves free
abbrev pub is_name : Version → Kind → Bool
is_name v kind.Name = true
is_name v kind.Shared = is_first v
is_name v kind.Exclusive = is_first v
is_name v kind.Observes = is_first v
is_name v _ = false

-- any number
abbrev pub is_number : Kind → Bool
is_number kind.One = true
is_number kind.Two = true
is_number kind.Number = true
is_number _ = false

-- the text of a name
abbrev pub name_of : Symbol → List ℕ
name_of (symbol.Name text) = text
name_of (symbol.Number n) = []
name_of (symbol.Key k) = []

-- the value of a number
abbrev pub value_of : Symbol → ℕ
value_of (symbol.Name text) = 0
value_of (symbol.Number n) = n
value_of (symbol.Key k) = 0
