-- The text of each word, and which words there are.
use Rattle.std.specs.Prelude.{◌≡◌, ℕ, Bool, true, false, if◌then◌else◌, ◌&&◌, not, List, [], ◌∷◌, codes, Option, Some, None, nat_lt}
use Rattle.std.specs.List.{AllByRecursion}
use Rattle.std.specs.Str.{bytes_eq}
use Rattle.std.specs.Fmt.{decimal}
use Rattle.word_cut.specs.Texts.{is_name, is_reserved, is_number, is_long_name}
use Rattle.word_cut.specs.Whole.{number_of}
use Rattle.parser_combinators.specs.declared.token.Key.{Key}
use Rattle.parser_combinators.specs.declared.token.Key.TheVariants as keys
use Rattle.parser_combinators.specs.declared.token.Symbol.{Symbol}
use Rattle.parser_combinators.specs.declared.token.Symbol.TheVariants as symbol

-- the text of a sign or a reserved word
abbrev pub key_text : Key → List ℕ
key_text keys.Open = codes "("
key_text keys.Close = codes ")"
key_text keys.Comma = codes ","
key_text keys.Colon = codes ":"
key_text keys.Dot = codes "."
key_text keys.Star = codes "*"
key_text keys.Plus = codes "+"
key_text keys.Minus = codes "-"
key_text keys.Equal = codes "="
key_text keys.Unequal = codes "!="
key_text keys.Less = codes "<"
key_text keys.AtMost = codes "<="
key_text keys.Greater = codes ">"
key_text keys.AtLeast = codes ">="
key_text keys.Cise = codes "cise"
key_text keys.Sort = codes "sort"
key_text keys.Const = codes "const"
key_text keys.Relation = codes "relation"
key_text keys.Counter = codes "counter"
key_text keys.Initially = codes "initially"
key_text keys.Token = codes "token"
key_text keys.Conflict = codes "conflict"
key_text keys.Invariant = codes "invariant"
key_text keys.Operation = codes "operation"
key_text keys.End = codes "end"
key_text keys.Requires = codes "requires"
key_text keys.Insert = codes "insert"
key_text keys.Remove = codes "remove"
key_text keys.Add = codes "add"
key_text keys.Set = codes "set"
key_text keys.Takes = codes "takes"
key_text keys.When = codes "when"
key_text keys.Forall = codes "forall"
key_text keys.Exists = codes "exists"
key_text keys.True = codes "true"
key_text keys.False = codes "false"
key_text keys.Not = codes "not"
key_text keys.And = codes "and"
key_text keys.Or = codes "or"
key_text keys.Implies = codes "implies"
key_text keys.Int = codes "int"

-- whether a key is a sign, not a reserved name
abbrev pub is_sign : Key → Bool
is_sign keys.Open = true
is_sign keys.Close = true
is_sign keys.Comma = true
is_sign keys.Colon = true
is_sign keys.Dot = true
is_sign keys.Star = true
is_sign keys.Plus = true
is_sign keys.Minus = true
is_sign keys.Equal = true
is_sign keys.Unequal = true
is_sign keys.Less = true
is_sign keys.AtMost = true
is_sign keys.Greater = true
is_sign keys.AtLeast = true
is_sign _ = false

-- each reserved name and each sign
abbrev pub all_keys : List Key
all_keys =
    keys.Open ∷ keys.Close ∷ keys.Comma ∷ keys.Colon ∷ keys.Dot ∷ keys.Star ∷ keys.Plus ∷ keys.Minus
    ∷ keys.Equal ∷ keys.Unequal ∷ keys.Less ∷ keys.AtMost ∷ keys.Greater ∷ keys.AtLeast ∷ keys.Cise
    ∷ keys.Sort ∷ keys.Const ∷ keys.Relation ∷ keys.Counter ∷ keys.Initially ∷ keys.Token
    ∷ keys.Conflict ∷ keys.Invariant ∷ keys.Operation ∷ keys.End ∷ keys.Requires ∷ keys.Insert
    ∷ keys.Remove ∷ keys.Add ∷ keys.Set ∷ keys.Takes ∷ keys.When ∷ keys.Forall ∷ keys.Exists
    ∷ keys.True ∷ keys.False ∷ keys.Not ∷ keys.And ∷ keys.Or ∷ keys.Implies ∷ keys.Int ∷ []

-- the text of a word, as it is spelled
abbrev pub text_of : Symbol → List ℕ
text_of (symbol.Name text) = text
text_of (symbol.Number n) = decimal n
text_of (symbol.Key k) = key_text k

-- the reserved name or sign with this text, from a list
abbrev pub key_from : List Key → List ℕ → Option Key
key_from [] text = None
key_from (k ∷ ks) text = if bytes_eq text (key_text k) then Some k else key_from ks text

-- the word with this text, where it is one
abbrev pub symbol_by : Option Key → List ℕ → Symbol
symbol_by (Some k) text = symbol.Key k
symbol_by None text = if is_number text then symbol.Number (number_of text) else symbol.Name text

-- the reserved name or sign with this text
unfoldable pub key_of : List ℕ → Option Key
key_of text = key_from all_keys text

-- the symbol that a text is
abbrev pub symbol_of : List ℕ → Symbol
symbol_of text = symbol_by (key_of text) text

-- The word can stand in a text: a name is none that is reserved and has at most 32 bytes, a number has at most 38 digits.
abbrev pub is_word : Symbol → Bool
is_word (symbol.Name text) = is_name text && (not (is_reserved text) && not (is_long_name text))
is_word (symbol.Number n) = nat_lt n 100000000000000000000000000000000000000
is_word (symbol.Key k) = true

-- A symbol can be spelled by a word.
abbrev pub IsWord : Symbol → Type 0
IsWord s = is_word s ≡ true

-- Each of some symbols can be spelled by a word.
abbrev pub AreWords : List Symbol → Type 0
AreWords = AllByRecursion IsWord
