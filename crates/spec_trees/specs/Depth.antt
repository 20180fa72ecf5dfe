-- How deep a formula nests.
use Rattle.std.specs.Prelude.{ℕ, ◌+◌, nat_le, if◌then◌else◌}
use Rattle.parser_combinators.specs.declared.token.Version.{Version}
use Rattle.spec_trees.specs.Form.{Form, true_form, false_form, not_form, connect_form, has_form, compare_form}
use Rattle.spec_trees.specs.Trees.{ReadingFits, TermFits}

-- the greater of two numbers
abbrev pub greater : ℕ → ℕ → ℕ
greater a b = if nat_le a b then b else a

-- `true`, `false`, an atom and a comparison have depth 1; `not` and a connective have one more than
-- the deepest part.
abbrev pub depth : Form → ℕ
depth (true_form w) = 1
depth (false_form w) = 1
depth (not_form w f) = 1 + depth f
depth (connect_form w f c g) = 1 + greater (depth f) (depth g)
depth (has_form w r) = 1
depth (compare_form w s c t) = 1

-- each name of a formula is one that the version leaves free
abbrev pub NamesFree : Version → Form → Type 0
NamesFree v (true_form w) = Unit {0}
NamesFree v (false_form w) = Unit {0}
NamesFree v (not_form w f) = NamesFree v f
NamesFree v (connect_form w f c g) = NamesFree v f × NamesFree v g
NamesFree v (has_form w r) = ReadingFits v r
NamesFree v (compare_form w s c t) = TermFits v s × TermFits v t
