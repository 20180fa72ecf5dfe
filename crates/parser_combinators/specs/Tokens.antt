-- The tokens of the words that stand in some bytes.
use Rattle.std.specs.Prelude.{ℕ, ◌+◌, List, [], ◌∷◌}
use Rattle.word_cut.specs.declared.word.Word.{Word}
use Rattle.word_cut.specs.Words.{text_of}
use Rattle.parser_combinators.specs.declared.token.Token.{Token}
use Rattle.parser_combinators.specs.Texts.{symbol_of}

-- a word as the grammar sees it, with its number
abbrev pub token_of : List ℕ → Word → ℕ → Token
token_of bytes word n = record { symbol = symbol_of (text_of bytes word); word = n }

-- each of them, numbered from n on
abbrev pub tokens_from : ℕ → List ℕ → List Word → List Token
tokens_from n bytes [] = []
tokens_from n bytes (w ∷ ws) = token_of bytes w n ∷ tokens_from (n + 1) bytes ws

-- the tokens of all words
abbrev pub tokens_of : List ℕ → List Word → List Token
tokens_of bytes words = tokens_from 0 bytes words
