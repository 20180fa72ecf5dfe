-- Which bytes words are made of, and which texts are words.
use Rattle.std.specs.Prelude.{ℕ, Bool, true, false, ◌==◌, nat_le, nat_lt, ◌&&◌, ◌||◌, if◌then◌else◌, List, [], ◌∷◌, length, codes}
use Rattle.std.specs.List.{list_all, list_any}
use Rattle.std.specs.Str.{bytes_eq}
use Rattle.word_cut.specs.declared.word.WordKind.{WordKind}
use Rattle.word_cut.specs.declared.word.WordKind.TheVariants as kinds

-- a to z and A to Z
abbrev pub is_letter : ℕ → Bool
is_letter b = (nat_le 97 b && nat_le b 122) || (nat_le 65 b && nat_le b 90)

-- 0 to 9
abbrev pub is_digit : ℕ → Bool
is_digit b = nat_le 48 b && nat_le b 57

-- a letter, a digit or _
abbrev pub is_name_byte : ℕ → Bool
is_name_byte b = is_letter b || (is_digit b || (b == 95))

-- space, tab, carriage return or line feed
abbrev pub is_space : ℕ → Bool
is_space b = (b == 32) || ((b == 9) || ((b == 13) || (b == 10)))

-- a name is a letter and letters, digits and _ behind it
abbrev pub is_name : List ℕ → Bool
is_name [] = false
is_name (b ∷ bs) = is_letter b && list_all is_name_byte bs

-- there is no byte
abbrev pub is_empty : List ℕ → Bool
is_empty [] = true
is_empty (b ∷ bs) = false

-- a number is 0 alone, or a digit from 1 to 9 and digits behind it
abbrev pub is_number : List ℕ → Bool
is_number [] = false
is_number (b ∷ bs) = if b == 48 then is_empty bs else (is_digit b && list_all is_digit bs)

-- the bytes that are signs by themselves
abbrev pub is_single_sign : ℕ → Bool
is_single_sign b = list_any (λ s. b == s) (codes "(),:.*+-=<>")

-- the bytes that are signs with a = behind them
abbrev pub is_double_sign : ℕ → Bool
is_double_sign b = list_any (λ s. b == s) (codes "!<>")

-- the signs are ( ) , : . * + - = != < <= > >=
abbrev pub is_sign : List ℕ → Bool
is_sign [] = false
is_sign (b ∷ []) = is_single_sign b
is_sign (b ∷ c ∷ []) = is_double_sign b && (c == 61)
is_sign (b ∷ c ∷ d ∷ bs) = false

-- a text that can be a word, whatever its length
abbrev pub is_word : List ℕ → Bool
is_word text = is_name text || (is_number text || is_sign text)

-- the reserved names that begin an item of a specification, or end one
abbrev pub item_names : List (List ℕ)
item_names =
    codes "sort" ∷ codes "const" ∷ codes "relation" ∷ codes "counter" ∷ codes "initially"
    ∷ codes "token" ∷ codes "conflict" ∷ codes "invariant" ∷ codes "operation" ∷ codes "end" ∷ []

-- the reserved names that begin a line of an operation
abbrev pub line_names : List (List ℕ)
line_names =
    codes "requires" ∷ codes "insert" ∷ codes "remove" ∷ codes "add" ∷ codes "set" ∷ codes "takes"
    ∷ []

-- the reserved names of formulas
abbrev pub formula_names : List (List ℕ)
formula_names =
    codes "forall" ∷ codes "exists" ∷ codes "true" ∷ codes "false" ∷ codes "not" ∷ codes "and"
    ∷ codes "or" ∷ codes "implies" ∷ []

-- the other reserved names
abbrev pub other_names : List (List ℕ)
other_names = codes "cise" ∷ codes "when" ∷ codes "int" ∷ []

-- a text is one of some names
abbrev pub is_among : List (List ℕ) → List ℕ → Bool
is_among names text = list_any (bytes_eq text) names

-- a name that the language keeps for itself
unfoldable pub is_reserved : List ℕ → Bool
is_reserved text =
    is_among item_names text
    || (is_among line_names text || (is_among formula_names text || is_among other_names text))

-- the kind of a text that is a word and isn't reserved
abbrev pub free_kind : List ℕ → WordKind
free_kind text =
    if is_name text then kinds.Name else (if is_number text then kinds.Number else kinds.Sign)

-- the kind of a text that is a word
abbrev pub kind_of : List ℕ → WordKind
kind_of text = if is_reserved text then kinds.Reserved else free_kind text

-- the most bytes that a name may have
abbrev pub longest_name : ℕ
longest_name = 32

-- the most bytes that a number may have
abbrev pub longest_number : ℕ
longest_number = 38

-- a name of more bytes than it may have
abbrev pub is_long_name : List ℕ → Bool
is_long_name text = is_name text && nat_lt longest_name (length text)

-- a number of more bytes than it may have
abbrev pub is_long_number : List ℕ → Bool
is_long_number text = is_number text && nat_lt longest_number (length text)
