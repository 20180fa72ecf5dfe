-- The layout of spelled text.
use Rattle.std.specs.Prelude.{ℕ, Bool, true, false, ◌||◌, ◌&&◌, not, if◌then◌else◌, List, [], ◌∷◌, ◌++◌, codes}
use Rattle.std.specs.Str.{bytes_eq}
use Rattle.parser_combinators.specs.declared.token.Key.{Key}
use Rattle.parser_combinators.specs.declared.token.Key.TheVariants as keys
use Rattle.parser_combinators.specs.declared.token.Symbol.{Symbol}
use Rattle.parser_combinators.specs.declared.token.Symbol.TheVariants as symbol
use Rattle.parser_combinators.specs.declared.token.Version.{Version}
use Rattle.parser_combinators.specs.Words.{plain, same_key, is_first, observes_text}
use Rattle.parser_combinators.specs.Texts.{text_of}
use Rattle.spec_trees.specs.Form.{TreeForm}
use Rattle.spec_trees.specs.Spelling.{tree}

-- the words that begin a line: those that begin an item, and `end`
abbrev pub begins_line : Key → Bool
begins_line keys.Sort = true
begins_line keys.Const = true
begins_line keys.Relation = true
begins_line keys.Counter = true
begins_line keys.Initially = true
begins_line keys.Token = true
begins_line keys.Conflict = true
begins_line keys.Invariant = true
begins_line keys.Operation = true
begins_line keys.End = true
begins_line _ = false

-- the words that begin a line after two spaces: those that begin a line of an operation
abbrev pub begins_indented : Key → Bool
begins_indented keys.Requires = true
begins_indented keys.Insert = true
begins_indented keys.Remove = true
begins_indented keys.Add = true
begins_indented keys.Set = true
begins_indented keys.Takes = true
begins_indented _ = false

-- what stands before a word that isn't the first; in the second version `observes` begins a line
-- after two spaces too
abbrev pub before : Version → Symbol → List ℕ
before v (symbol.Key k) =
    if begins_line k then codes "\n" else (if begins_indented k then codes "\n  " else codes " ")
before v (symbol.Name text) =
    if not (is_first v) && bytes_eq text observes_text then codes "\n  " else codes " "
before v (symbol.Number n) = codes " "

-- the words behind the first, and the line feed at the end
abbrev pub behind : Version → List Symbol → List ℕ
behind v [] = codes "\n"
behind v (s ∷ ss) = before v s ++ (text_of s ++ behind v ss)

-- words with the white space between them that the layout asks for
abbrev pub laid_out : Version → List Symbol → List ℕ
laid_out v [] = codes "\n"
laid_out v (s ∷ ss) = text_of s ++ behind v ss

-- the text of a tree
abbrev pub text_of_tree : TreeForm → List ℕ
text_of_tree t = laid_out t.version (plain (tree t))
