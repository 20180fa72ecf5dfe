-- The words of a tree, each with the numbers that the tree has for its place: the grammar of both
-- versions.
use Rattle.std.specs.Prelude.{ℕ, List, [], ◌∷◌, ◌++◌, map, Bool, true, false, Option, Some, None}
use Rattle.parser_combinators.specs.declared.token.Key.{Key}
use Rattle.parser_combinators.specs.declared.token.Key.TheVariants as keys
use Rattle.parser_combinators.specs.declared.token.Symbol.TheVariants as symbol
use Rattle.parser_combinators.specs.declared.token.Version.{Version}
use Rattle.parser_combinators.specs.declared.token.Version.TheVariants as version
use Rattle.spec_trees.specs.declared.tree.Mark.{Mark}
use Rattle.spec_trees.specs.declared.tree.Figure.{Figure}
use Rattle.spec_trees.specs.declared.tree.Reading.{Reading}
use Rattle.spec_trees.specs.declared.tree.Product.{Product}
use Rattle.spec_trees.specs.declared.tree.Product.TheVariants as products
use Rattle.spec_trees.specs.declared.tree.Summand.{Summand}
use Rattle.spec_trees.specs.declared.tree.Sign.{Sign}
use Rattle.spec_trees.specs.declared.tree.Sign.TheVariants as signs
use Rattle.spec_trees.specs.declared.tree.Signed.{Signed}
use Rattle.spec_trees.specs.declared.tree.Term.{Term}
use Rattle.spec_trees.specs.declared.tree.Comparison.{Comparison}
use Rattle.spec_trees.specs.declared.tree.Comparison.TheVariants as comparisons
use Rattle.spec_trees.specs.declared.tree.Connective.{Connective}
use Rattle.spec_trees.specs.declared.tree.Connective.TheVariants as connectives
use Rattle.spec_trees.specs.declared.tree.Value.{Value}
use Rattle.spec_trees.specs.declared.tree.Value.TheVariants as values
use Rattle.spec_trees.specs.declared.tree.ParamKind.{ParamKind}
use Rattle.spec_trees.specs.declared.tree.ParamKind.TheVariants as kinds
use Rattle.spec_trees.specs.declared.tree.Param.{Param}
use Rattle.spec_trees.specs.declared.tree.Spot.{Spot}
use Rattle.spec_trees.specs.declared.tree.Spot.TheVariants as spots
use Rattle.spec_trees.specs.declared.tree.Mode.{Mode}
use Rattle.spec_trees.specs.declared.tree.Mode.TheVariants as modes
use Rattle.spec_trees.specs.declared.tree.Quantifier.{Quantifier}
use Rattle.spec_trees.specs.declared.tree.Quantifier.TheVariants as quantifiers
use Rattle.spec_trees.specs.declared.tree.Prefix.{Prefix}
use Rattle.spec_trees.specs.declared.tree.Variable.{Variable}
use Rattle.spec_trees.specs.Form.{Form, true_form, false_form, not_form, connect_form, has_form, compare_form, Sentence, LineForm, requires_form, insert_form, remove_form, add_form, set_form, takes_form, observes_form, ItemForm, sort_form, const_form, relation_form, counter_form, initially_form, token_form, conflict_form, invariant_form, operation_form, TreeForm}
use Rattle.parser_combinators.specs.Words.{Spelt, plain, shared_text, exclusive_text, observes_text, key, sign, each, listed, group, with_place}
use Rattle.parser_combinators.specs.Texts.{text_of}

-- a name as a word, whose place the tree has
abbrev pub mark : Mark → Spelt
mark m = record { symbol = symbol.Name m.text; claims = m.word ∷ [] }

-- a number as a word, whose place the tree has
abbrev pub figure : Figure → Spelt
figure f = record { symbol = symbol.Number f.value; claims = f.word ∷ [] }

-- a name in a list
abbrev pub one : Mark → List Spelt
one m = mark m ∷ []

-- a name and its arguments, in brackets where there are any
abbrev pub reading : Reading → List Spelt
reading r = mark r.name ∷ group one r.args

-- a number, a number times a reading, or a reading
abbrev pub product : Product → List Spelt
product (products.Number f) = figure f ∷ []
product (products.Times f r) = figure f ∷ sign keys.Star ∷ reading r
product (products.Reading r) = reading r

-- a product, whose first word is the summand's place
abbrev pub summand : Summand → List Spelt
summand s = with_place s.word (product s.product)

-- the sign of a sum
abbrev pub sign_key : Sign → Key
sign_key signs.Plus = keys.Plus
sign_key signs.Minus = keys.Minus

-- the place of a summand behind the first is that of the sign before it
abbrev pub signed : Signed → List Spelt
signed s = key (sign_key s.sign) s.summand.word ∷ product s.summand.product

-- the `-` before a sum, where there is one
abbrev pub minus : Bool → List Spelt
minus true = sign keys.Minus ∷ []
minus false = []

-- a sum: its first summand, with a `-` or without, and signed ones after it
abbrev pub term : Term → List Spelt
term t = minus t.minus ++ (summand t.first ++ each signed t.more)

-- the sign of a comparison
abbrev pub comparison_key : Comparison → Key
comparison_key comparisons.Equal = keys.Equal
comparison_key comparisons.Unequal = keys.Unequal
comparison_key comparisons.Less = keys.Less
comparison_key comparisons.AtMost = keys.AtMost
comparison_key comparisons.Greater = keys.Greater
comparison_key comparisons.AtLeast = keys.AtLeast

-- the word of a connective
abbrev pub connective_key : Connective → Key
connective_key connectives.And = keys.And
connective_key connectives.Or = keys.Or
connective_key connectives.Implies = keys.Implies

-- A formula. A comparison and a connective stand in brackets, each with its place at the opening
-- one.
abbrev pub form : Form → List Spelt
form (true_form w) = key keys.True w ∷ []
form (false_form w) = key keys.False w ∷ []
form (not_form w f) = key keys.Not w ∷ form f
form (connect_form w f c g) =
    key keys.Open w ∷ ((form f ++ (sign (connective_key c) ∷ form g)) ++ sign keys.Close ∷ [])
form (has_form w r) = with_place w (reading r)
form (compare_form w s c t) =
    key keys.Open w ∷ ((term s ++ (sign (comparison_key c) ∷ term t)) ++ sign keys.Close ∷ [])

-- a variable and its sort
abbrev pub variable : Variable → List Spelt
variable x = mark x.name ∷ sign keys.Colon ∷ mark x.sort ∷ []

-- the word of a quantifier
abbrev pub quantifier_key : Quantifier → Key
quantifier_key quantifiers.Forall = keys.Forall
quantifier_key quantifiers.Exists = keys.Exists

-- the quantifier with its variables and a dot, where there is one
abbrev pub prefix : Option Prefix → List Spelt
prefix None = []
prefix (Some p) =
    key (quantifier_key p.quantifier) p.word ∷ (listed variable p.vars ++ sign keys.Dot ∷ [])

-- a formula with its prefix
abbrev pub sentence : Sentence → List Spelt
sentence s = prefix s.prefix ++ form s.body

-- an initial value
abbrev pub value : Value → List Spelt
value values.True = sign keys.True ∷ []
value values.False = sign keys.False ∷ []
value (values.Number m f) = minus m ++ figure f ∷ []

-- what a parameter stands for: a sort, or `int`
abbrev pub param_kind : ParamKind → List Spelt
param_kind (kinds.Sort m) = one m
param_kind kinds.Int = sign keys.Int ∷ []

-- a parameter and what it stands for
abbrev pub param : Param → List Spelt
param p = mark p.name ∷ sign keys.Colon ∷ param_kind p.kind

-- one element, or `*` for every one
abbrev pub spot : Spot → List Spelt
spot (spots.One m) = one m
spot spots.Every = sign keys.Star ∷ []

-- how a token is taken: nothing, or one of the two words of version 2
abbrev pub mode : Mode → List Spelt
mode modes.Missing = []
mode modes.Shared = record { symbol = symbol.Name shared_text; claims = [] } ∷ []
mode modes.Exclusive = record { symbol = symbol.Name exclusive_text; claims = [] } ∷ []

-- the condition of an update, where there is one
abbrev pub guard : Option Form → List Spelt
guard None = []
guard (Some f) = sign keys.When ∷ form f

-- a line of an operation, with its place at its first word
abbrev pub line : LineForm → List Spelt
line (requires_form w s) = key keys.Requires w ∷ sentence s
line (insert_form w m ss g) = key keys.Insert w ∷ mark m ∷ (group spot ss ++ guard g)
line (remove_form w m ss g) = key keys.Remove w ∷ mark m ∷ (group spot ss ++ guard g)
line (add_form w m ss t g) = key keys.Add w ∷ mark m ∷ (group spot ss ++ (term t ++ guard g))
line (set_form w m ss t g) = key keys.Set w ∷ mark m ∷ (group spot ss ++ (term t ++ guard g))
line (takes_form w r m) = key keys.Takes w ∷ (reading r ++ mode m)
line (observes_form w s) =
    record { symbol = symbol.Name observes_text; claims = w ∷ [] } ∷ sentence s

-- a declaration, with its place at its first word
abbrev pub item : ItemForm → List Spelt
item (sort_form w m) = key keys.Sort w ∷ mark m ∷ []
item (const_form w m s) = key keys.Const w ∷ mark m ∷ sign keys.Colon ∷ mark s ∷ []
item (relation_form w m ps) = key keys.Relation w ∷ mark m ∷ group one ps
item (counter_form w m ps) = key keys.Counter w ∷ mark m ∷ group one ps
item (initially_form w m v) = key keys.Initially w ∷ mark m ∷ value v
item (token_form w m ps) = key keys.Token w ∷ mark m ∷ group one ps
item (conflict_form w p q) = key keys.Conflict w ∷ (reading p ++ reading q)
item (invariant_form w m s) = key keys.Invariant w ∷ mark m ∷ sentence s
item (operation_form w m ps ls) =
    key keys.Operation w ∷ mark m ∷ (group param ps ++ (each line ls ++ sign keys.End ∷ []))

-- the number of a version
abbrev pub version_number : Version → ℕ
version_number version.First = 1
version_number version.Second = 2

-- The words of a specification: `cise`, its version, and its declarations.
abbrev pub tree : TreeForm → List Spelt
tree t =
    sign keys.Cise ∷ record { symbol = symbol.Number (version_number t.version); claims = [] }
    ∷ each item t.items

-- the texts of a tree's words
abbrev pub spelling : TreeForm → List (List ℕ)
spelling t = map text_of (plain (tree t))
