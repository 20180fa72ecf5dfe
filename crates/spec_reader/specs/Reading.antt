-- The readers of each part of the grammar, which mirror the code; what reading means is said in
-- `Place`.
use Rattle.std.specs.Prelude.{◌==◌, ℕ, zero, suc, Bool, true, false, ◌||◌, not, if◌then◌else◌, List, [], ◌∷◌, length, Option, Some, None, Result, Ok, Err, ◌⊎◌}
use Rattle.std.proofs.Common.{inl, inr}
use Rattle.parser_combinators.specs.declared.token.Key.{Key}
use Rattle.parser_combinators.specs.declared.token.Key.TheVariants as keys
use Rattle.parser_combinators.specs.declared.token.Kind.{Kind}
use Rattle.parser_combinators.specs.declared.token.Kind.TheVariants as kind
use Rattle.parser_combinators.specs.declared.token.Token.{Token}
use Rattle.parser_combinators.specs.declared.token.Version.{Version}
use Rattle.parser_combinators.specs.declared.token.Version.TheVariants as version
use Rattle.spec_trees.specs.declared.tree.Mark.{Mark}
use Rattle.spec_trees.specs.declared.tree.Figure.{Figure}
use Rattle.spec_trees.specs.declared.tree.Reading.{Reading}
use Rattle.spec_trees.specs.declared.tree.Product.{Product}
use Rattle.spec_trees.specs.declared.tree.Product.TheVariants as products
use Rattle.spec_trees.specs.declared.tree.Summand.{Summand}
use Rattle.spec_trees.specs.declared.tree.Sign.{Sign}
use Rattle.spec_trees.specs.declared.tree.Sign.TheVariants as signs
use Rattle.spec_trees.specs.declared.tree.Signed.{Signed}
use Rattle.spec_trees.specs.declared.tree.Term.{Term}
use Rattle.spec_trees.specs.declared.tree.Comparison.{Comparison}
use Rattle.spec_trees.specs.declared.tree.Comparison.TheVariants as comparisons
use Rattle.spec_trees.specs.declared.tree.Connective.{Connective}
use Rattle.spec_trees.specs.declared.tree.Connective.TheVariants as connectives
use Rattle.spec_trees.specs.declared.tree.Value.{Value}
use Rattle.spec_trees.specs.declared.tree.Value.TheVariants as values
use Rattle.spec_trees.specs.declared.tree.ParamKind.{ParamKind}
use Rattle.spec_trees.specs.declared.tree.ParamKind.TheVariants as kinds
use Rattle.spec_trees.specs.declared.tree.Param.{Param}
use Rattle.spec_trees.specs.declared.tree.Spot.{Spot}
use Rattle.spec_trees.specs.declared.tree.Spot.TheVariants as spots
use Rattle.spec_trees.specs.declared.tree.Mode.{Mode}
use Rattle.spec_trees.specs.declared.tree.Mode.TheVariants as modes
use Rattle.spec_trees.specs.declared.tree.Quantifier.{Quantifier}
use Rattle.spec_trees.specs.declared.tree.Quantifier.TheVariants as quantifiers
use Rattle.spec_trees.specs.declared.tree.Prefix.{Prefix}
use Rattle.spec_trees.specs.declared.tree.Variable.{Variable}
use Rattle.spec_trees.specs.Form.{Form, true_form, false_form, not_form, connect_form, has_form, compare_form, Sentence, LineForm, requires_form, insert_form, remove_form, add_form, set_form, takes_form, observes_form, ItemForm, sort_form, const_form, relation_form, counter_form, initially_form, token_form, conflict_form, invariant_form, operation_form, TreeForm}
use Rattle.parser_combinators.specs.Words.{kind_of, is_key, is_name, is_number, name_of, value_of}
use Rattle.parser_combinators.specs.Read.{Read, ◌>>=◌, mapped, both, either, perhaps, only, many, word_at, key_at, sign_at, placed, second, listed_at, group_at}

-- ---- names, numbers, readings, terms

-- reads a name that the version leaves free
abbrev pub name_at : Version → List Token → Read Mark
name_at v = word_at (is_name v) (λ t. record { text = name_of t.symbol; word = t.word })

-- reads a number
abbrev pub figure_at : List Token → Read Figure
figure_at = word_at is_number (λ t. record { value = value_of t.symbol; word = t.word })

-- reads arguments in brackets, where there are any
unfoldable pub args_at : Version → List Token → Read (List Mark)
args_at v = group_at (name_at v)

-- a reading of a name and its arguments
abbrev pub to_reading : Mark × List Mark → Reading
to_reading x = record { name = x.0; args = x.1 }

-- reads a name with its arguments
unfoldable pub reading_at : Version → List Token → Read Reading
reading_at v = mapped to_reading (both (name_at v) (args_at v))

-- a product of what was read: a number, with a reading or without, or a reading
abbrev pub to_product : (Figure × Option Reading) ⊎ Reading → Product
to_product (inl (f, None)) = products.Number f
to_product (inl (f, Some r)) = products.Times f r
to_product (inr r) = products.Reading r

-- reads `*` and a reading
abbrev pub times_at : Version → List Token → Read Reading
times_at v = mapped second (both (sign_at keys.Star) (reading_at v))

-- reads a number, a number times a reading, or a reading
unfoldable pub product_at : Version → List Token → Read Product
product_at v =
    mapped to_product
    (either is_number (both figure_at (perhaps (is_key keys.Star) (times_at v))) (reading_at v))

-- a summand of its place and its product
abbrev pub to_summand : ℕ × Product → Summand
to_summand x = record { word = x.0; product = x.1 }

-- reads a product, with the place of its first word
unfoldable pub summand_at : Version → List Token → Read Summand
summand_at v = mapped to_summand (placed (product_at v))

-- `+` or `-`
abbrev pub is_sign : Kind → Bool
is_sign k = is_key keys.Plus k || is_key keys.Minus k

-- which of the two
abbrev pub sign_of : Kind → Sign
sign_of k = if is_key keys.Plus k then signs.Plus else signs.Minus

-- reads a sign, with its place
abbrev pub plus_at : List Token → Read (Sign × ℕ)
plus_at = word_at is_sign (λ t. (sign_of (kind_of t.symbol), t.word))

-- a signed summand, whose place is that of its sign
abbrev pub to_signed : (Sign × ℕ) × Product → Signed
to_signed x = record { sign = x.0.0; summand = record { word = x.0.1; product = x.1 } }

-- reads a sign and a product
unfoldable pub signed_at : Version → List Token → Read Signed
signed_at v = mapped to_signed (both plus_at (product_at v))

-- whether something stood there
abbrev pub is_some : Option (Unit {0}) → Bool
is_some None = false
is_some (Some _) = true

-- reads a `-`, if one stands there
abbrev pub minus_at : List Token → Read Bool
minus_at = mapped is_some (perhaps (is_key keys.Minus) (sign_at keys.Minus))

-- a sum of its parts
abbrev pub to_term : Bool × (Summand × List Signed) → Term
to_term x = record { minus = x.0; first = x.1.0; more = x.1.1 }

-- reads signed summands, as long as a sign follows
unfoldable pub more_at : Version → List Token → Read (List Signed)
more_at v = many is_sign (signed_at v)

-- reads a sum
unfoldable pub term_at : Version → List Token → Read Term
term_at v = mapped to_term (both minus_at (both (summand_at v) (more_at v)))

-- ---- formulas

-- a sign that compares
abbrev pub is_comparison : Kind → Bool
is_comparison k =
    is_key keys.Equal k
    || (is_key keys.Unequal k || (is_key keys.Less k || (is_key keys.AtMost k
    || (is_key keys.Greater k || is_key keys.AtLeast k))))

-- which comparison it is
abbrev pub comparison_of : Kind → Comparison
comparison_of k =
    if is_key keys.Equal k then comparisons.Equal
    else (if is_key keys.Unequal k then comparisons.Unequal
    else (if is_key keys.Less k then comparisons.Less
    else (if is_key keys.AtMost k then comparisons.AtMost
    else (if is_key keys.Greater k then comparisons.Greater
    else comparisons.AtLeast))))

-- reads a sign that compares
abbrev pub comparison_at : List Token → Read Comparison
comparison_at = word_at is_comparison (λ t. comparison_of (kind_of t.symbol))

-- a word that connects formulas
abbrev pub is_connective : Kind → Bool
is_connective k = is_key keys.And k || (is_key keys.Or k || is_key keys.Implies k)

-- which connective it is
abbrev pub connective_of : Kind → Connective
connective_of k =
    if is_key keys.And k then connectives.And
    else (if is_key keys.Or k then connectives.Or else connectives.Implies)

-- reads a word that connects
abbrev pub connective_at : List Token → Read Connective
connective_at = word_at is_connective (λ t. connective_of (kind_of t.symbol))

-- what stands in brackets
pub data Inside : Type 0 where
  compared : Term → Comparison → Term → Inside
  connected : Form → Connective → Form → Inside

-- a comparison of its parts
abbrev pub to_compared : Term × (Comparison × Term) → Inside
to_compared x = compared x.0 x.1.0 x.1.1

-- reads two sums and what compares them
unfoldable pub compared_at : Version → List Token → Read Inside
compared_at v = mapped to_compared (both (term_at v) (both comparison_at (term_at v)))

-- what a sum that begins with no reading begins with
abbrev pub starts_term : Kind → Bool
starts_term k = is_number k || is_key keys.Minus k

-- Behind a reading a connective or the rest of a comparison stands.
abbrev pub After : Type 0
After = (Connective × Form) ⊎ (List Signed × (Comparison × Term))

-- What stands in brackets, of what was read: two sums, or two formulas. A reading may begin either.
abbrev pub to_inside : (Term × (Comparison × Term))
    ⊎ (((ℕ × Reading) × After) ⊎ (Form × (Connective × Form)))
    → Inside
to_inside (inl x) = compared x.0 x.1.0 x.1.1
to_inside (inr (inl (r, inl x))) = connected (has_form r.0 r.1) x.0 x.1
to_inside (inr (inl (r, inr x))) =
    compared
    (record {
      minus = false;
      first = record { word = r.0; product = products.Reading r.1 };
      more = x.0;
    })
    x.1.0 x.1.1
to_inside (inr (inr x)) = connected x.0 x.1.0 x.1.1

-- reads what follows a reading in brackets
abbrev pub after_at : Version → (List Token → Read Form) → List Token → Read After
after_at v r =
    either is_connective (both connective_at r) (both (more_at v) (both comparison_at (term_at v)))

-- a reading with its place
unfoldable pub atom_at : Version → List Token → Read (ℕ × Reading)
atom_at v = placed (reading_at v)

-- reads what stands in brackets, with this reader of formulas
unfoldable pub inside_at : Version → (List Token → Read Form) → List Token → Read Inside
inside_at v r =
    mapped to_inside
    (either starts_term (both (only starts_term (term_at v)) (both comparison_at (term_at v)))
    (either (is_name v) (both (atom_at v) (after_at v r))
    (both (only (λ k. not (is_name v k)) r) (both connective_at r))))

-- the formula in brackets, with the place of the opening one
abbrev pub to_bracket : ℕ × (Inside × Unit {0}) → Form
to_bracket (w, (compared s c t, u)) = compare_form w s c t
to_bracket (w, (connected f c g, u)) = connect_form w f c g

-- reads brackets, and in them what the reader reads
abbrev pub bracket_at : (List Token → Read Inside) → List Token → Read Form
bracket_at r = mapped to_bracket (both (key_at keys.Open) (both r (sign_at keys.Close)))

-- a formula that doesn't begin with `not`, of what was read
abbrev pub to_plain : ℕ ⊎ (ℕ ⊎ (Form ⊎ (ℕ × Reading))) → Form
to_plain (inl w) = true_form w
to_plain (inr (inl w)) = false_form w
to_plain (inr (inr (inl f))) = f
to_plain (inr (inr (inr r))) = has_form r.0 r.1

-- a formula, where the brackets are read so
abbrev pub plain_at : Version → (List Token → Read Inside) → List Token → Read Form
plain_at v r =
    mapped to_plain
    (either (is_key keys.True) (key_at keys.True)
    (either (is_key keys.False) (key_at keys.False)
    (either (is_key keys.Open) (bracket_at r) (atom_at v))))

-- a formula, with its `not` or without
abbrev pub to_form : (ℕ × Form) ⊎ Form → Form
to_form (inl x) = not_form x.0 x.1
to_form (inr f) = f

-- with at most d levels below the uppermost
unfoldable pub form_at : Version → ℕ → List Token → Read Form
form_at v zero = plain_at v (compared_at v)
form_at v (suc d) =
    mapped to_form
    (either (is_key keys.Not) (both (key_at keys.Not) (form_at v d))
    (plain_at v (inside_at v (form_at v d))))

-- what stands in the brackets of a formula
unfoldable pub inner_at : Version → ℕ → List Token → Read Inside
inner_at v zero = compared_at v
inner_at v (suc d) = inside_at v (form_at v d)

-- a reading and what stands behind it, in brackets
abbrev pub behind_at : Version → (List Token → Read Form) → ℕ × Reading → List Token → Read Inside
behind_at v r x = mapped (λ y. to_inside (inr (inl (x, y)))) (after_at v r)

-- reads a reading in brackets, and what follows it
abbrev pub named_at : Version → (List Token → Read Form) → List Token → Read Inside
named_at v r ws = atom_at v ws >>= λ x. behind_at v r x.0 x.1

-- reads `not` and a formula
abbrev pub negation_at : (List Token → Read Form) → List Token → Read Form
negation_at r ws = key_at keys.Not ws >>= λ a. r a.1 >>= λ b. Ok (not_form a.0 b.0, b.1)

-- ---- formulas with variables

-- a variable of its name and its sort
abbrev pub to_variable : Mark × (Unit {0} × Mark) → Variable
to_variable x = record { name = x.0; sort = x.1.1 }

-- reads a variable and its sort
unfoldable pub variable_at : Version → List Token → Read Variable
variable_at v = mapped to_variable (both (name_at v) (both (sign_at keys.Colon) (name_at v)))

-- `forall` or `exists`
abbrev pub is_quantifier : Kind → Bool
is_quantifier k = is_key keys.Forall k || is_key keys.Exists k

-- which of the two
abbrev pub quantifier_of : Kind → Quantifier
quantifier_of k = if is_key keys.Forall k then quantifiers.Forall else quantifiers.Exists

-- reads a quantifier, with its place
abbrev pub quantifier_at : List Token → Read (Quantifier × ℕ)
quantifier_at = word_at is_quantifier (λ t. (quantifier_of (kind_of t.symbol), t.word))

-- a prefix of its quantifier and its variables
abbrev pub to_prefix : (Quantifier × ℕ) × (List Variable × Unit {0}) → Prefix
to_prefix x = record { word = x.0.1; quantifier = x.0.0; vars = x.1.0 }

-- reads variables, with commas between them
unfoldable pub variables_at : Version → List Token → Read (List Variable)
variables_at v = listed_at (variable_at v)

-- reads a quantifier, its variables and a dot
unfoldable pub prefix_at : Version → List Token → Read Prefix
prefix_at v = mapped to_prefix (both quantifier_at (both (variables_at v) (sign_at keys.Dot)))

-- a formula with the prefix that was read, if any
abbrev pub to_sentence : Option Prefix × Form → Sentence
to_sentence x = record { prefix = x.0; body = x.1 }

-- reads a formula with its prefix
unfoldable pub sentence_at : Version → ℕ → List Token → Read Sentence
sentence_at v d = mapped to_sentence (both (perhaps is_quantifier (prefix_at v)) (form_at v d))

-- ---- lines

-- a spot of what was read: `*`, or a name
abbrev pub to_spot : Unit {0} ⊎ Mark → Spot
to_spot (inl u) = spots.Every
to_spot (inr m) = spots.One m

-- reads `*` or a name
unfoldable pub spot_at : Version → List Token → Read Spot
spot_at v = mapped to_spot (either (is_key keys.Star) (sign_at keys.Star) (name_at v))

-- reads spots in brackets, where there are any
unfoldable pub spots_at : Version → List Token → Read (List Spot)
spots_at v = group_at (spot_at v)

-- reads `when` and a formula
abbrev pub when_at : Version → ℕ → List Token → Read Form
when_at v d = mapped second (both (sign_at keys.When) (form_at v d))

-- reads a condition, where there is one
unfoldable pub guard_at : Version → ℕ → List Token → Read (Option Form)
guard_at v d = perhaps (is_key keys.When) (when_at v d)

-- one of the two words that say how a token is taken
abbrev pub is_mode : Kind → Bool
is_mode kind.Shared = true
is_mode kind.Exclusive = true
is_mode _ = false

-- which of the two
abbrev pub mode_of : Kind → Mode
mode_of kind.Shared = modes.Shared
mode_of _ = modes.Exclusive

-- how a token is taken, where a word says it or none does
abbrev pub to_mode : Option Mode → Mode
to_mode None = modes.Missing
to_mode (Some m) = m

-- reads how a token is taken, which version 2 alone says
unfoldable pub mode_at : Version → List Token → Read Mode
mode_at version.First ws = Ok (modes.Missing, ws)
mode_at version.Second ws =
    mapped to_mode (perhaps is_mode (word_at is_mode (λ t. mode_of (kind_of t.symbol)))) ws

-- a name, spots and what guards them
abbrev pub Change : Type 0
Change = ℕ × (Mark × (List Spot × Option Form))

-- a name, spots, an amount and what guards them
abbrev pub Amount : Type 0
Amount = ℕ × (Mark × (List Spot × (Term × Option Form)))

-- reads an insert or a remove line, by its word
unfoldable pub change_at : Key → Version → ℕ → List Token → Read Change
change_at k v d = both (key_at k) (both (name_at v) (both (spots_at v) (guard_at v d)))

-- reads an add or a set line, by its word
unfoldable pub amount_at : Key → Version → ℕ → List Token → Read Amount
amount_at k v d =
    both (key_at k) (both (name_at v) (both (spots_at v) (both (term_at v) (guard_at v d))))

-- reads a takes line
unfoldable pub takes_at : Version → List Token → Read (ℕ × (Reading × Mode))
takes_at v = both (key_at keys.Takes) (both (reading_at v) (mode_at v))

-- reads a requires line
unfoldable pub requires_at : Version → ℕ → List Token → Read (ℕ × Sentence)
requires_at v d = both (key_at keys.Requires) (sentence_at v d)

-- a line of what was read, by the word that it begins with
abbrev pub to_old_line : (ℕ × Sentence)
    ⊎ (Change ⊎ (Change ⊎ (Amount ⊎ (Amount ⊎ (ℕ × (Reading × Mode))))))
    → LineForm
to_old_line (inl x) = requires_form x.0 x.1
to_old_line (inr (inl x)) = insert_form x.0 x.1.0 x.1.1.0 x.1.1.1
to_old_line (inr (inr (inl x))) = remove_form x.0 x.1.0 x.1.1.0 x.1.1.1
to_old_line (inr (inr (inr (inl x)))) = add_form x.0 x.1.0 x.1.1.0 x.1.1.1.0 x.1.1.1.1
to_old_line (inr (inr (inr (inr (inl x))))) = set_form x.0 x.1.0 x.1.1.0 x.1.1.1.0 x.1.1.1.1
to_old_line (inr (inr (inr (inr (inr x))))) = takes_form x.0 x.1.0 x.1.1

-- the lines that both versions have
unfoldable pub old_line_at : Version → ℕ → List Token → Read LineForm
old_line_at v d =
    mapped to_old_line
    (either (is_key keys.Requires) (requires_at v d)
    (either (is_key keys.Insert) (change_at keys.Insert v d)
    (either (is_key keys.Remove) (change_at keys.Remove v d)
    (either (is_key keys.Add) (amount_at keys.Add v d)
    (either (is_key keys.Set) (amount_at keys.Set v d) (takes_at v))))))

-- the word `observes`
abbrev pub is_observes : Kind → Bool
is_observes kind.Observes = true
is_observes _ = false

-- reads an observes line
unfoldable pub observes_at : Version → ℕ → List Token → Read (ℕ × Sentence)
observes_at v d = both (word_at is_observes (λ t. t.word)) (sentence_at v d)

-- a line of what was read: of version 2 alone, or of both
abbrev pub to_line : (ℕ × Sentence) ⊎ LineForm → LineForm
to_line (inl x) = observes_form x.0 x.1
to_line (inr l) = l

-- reads a line of an operation
unfoldable pub line_at : Version → ℕ → List Token → Read LineForm
line_at version.First d ws = old_line_at version.First d ws
line_at version.Second d ws =
    mapped to_line
    (either is_observes (observes_at version.Second d) (old_line_at version.Second d)) ws

-- a word with which a line of both versions begins
abbrev pub starts_old_line : Kind → Bool
starts_old_line k =
    is_key keys.Requires k
    || (is_key keys.Insert k || (is_key keys.Remove k || (is_key keys.Add k || (is_key keys.Set k
    || is_key keys.Takes k))))

-- a word with which a line of the version begins
abbrev pub starts_line : Version → Kind → Bool
starts_line version.First k = starts_old_line k
starts_line version.Second k = is_observes k || starts_old_line k

-- reads lines, as long as a word begins one
unfoldable pub lines_at : Version → ℕ → List Token → Read (List LineForm)
lines_at v d = many (starts_line v) (line_at v d)

-- ---- items

-- an initial value of what was read
abbrev pub to_value : Unit {0} ⊎ (Unit {0} ⊎ (Bool × Figure)) → Value
to_value (inl u) = values.True
to_value (inr (inl u)) = values.False
to_value (inr (inr x)) = values.Number x.0 x.1

-- reads an initial value
unfoldable pub value_at : List Token → Read Value
value_at =
    mapped to_value
    (either (is_key keys.True) (sign_at keys.True)
    (either (is_key keys.False) (sign_at keys.False) (both minus_at figure_at)))

-- what a parameter stands for: `int`, or a sort
abbrev pub to_kind : Unit {0} ⊎ Mark → ParamKind
to_kind (inl u) = kinds.Int
to_kind (inr m) = kinds.Sort m

-- reads `int` or a sort
unfoldable pub param_kind_at : Version → List Token → Read ParamKind
param_kind_at v = mapped to_kind (either (is_key keys.Int) (sign_at keys.Int) (name_at v))

-- a parameter of its name and its kind
abbrev pub to_param : Mark × (Unit {0} × ParamKind) → Param
to_param x = record { name = x.0; kind = x.1.1 }

-- reads a parameter and its kind
unfoldable pub param_at : Version → List Token → Read Param
param_at v = mapped to_param (both (name_at v) (both (sign_at keys.Colon) (param_kind_at v)))

-- reads parameters in brackets, where there are any
unfoldable pub params_at : Version → List Token → Read (List Param)
params_at v = group_at (param_at v)

-- a name with the sorts of its places
abbrev pub Places : Type 0
Places = ℕ × (Mark × List Mark)

-- reads the declaration of a sort
unfoldable pub sort_at : Version → List Token → Read (ℕ × Mark)
sort_at v = both (key_at keys.Sort) (name_at v)

-- reads that of a constant
unfoldable pub const_at : Version → List Token → Read (ℕ × (Mark × (Unit {0} × Mark)))
const_at v = both (key_at keys.Const) (both (name_at v) (both (sign_at keys.Colon) (name_at v)))

-- reads that of a relation, a counter or a token, by its word
unfoldable pub places_at : Key → Version → List Token → Read Places
places_at k v = both (key_at k) (both (name_at v) (args_at v))

-- reads an initial value of a name
unfoldable pub initially_at : Version → List Token → Read (ℕ × (Mark × Value))
initially_at v = both (key_at keys.Initially) (both (name_at v) value_at)

-- reads two patterns
unfoldable pub conflict_at : Version → List Token → Read (ℕ × (Reading × Reading))
conflict_at v = both (key_at keys.Conflict) (both (reading_at v) (reading_at v))

-- reads an invariant
unfoldable pub invariant_at : Version → ℕ → List Token → Read (ℕ × (Mark × Sentence))
invariant_at v d = both (key_at keys.Invariant) (both (name_at v) (sentence_at v d))

-- reads an operation
unfoldable pub operation_at : Version → ℕ → List Token
    → Read (ℕ × (Mark × (List Param × (List LineForm × Unit {0}))))
operation_at v d =
    both (key_at keys.Operation)
    (both (name_at v) (both (params_at v) (both (lines_at v d) (sign_at keys.End))))

-- the parts of a declaration, by the word that it begins with
abbrev pub AnyItem : Type 0
AnyItem =
    (ℕ × Mark)
    ⊎ ((ℕ × (Mark × (Unit {0} × Mark))) ⊎ (Places ⊎ (Places ⊎ ((ℕ × (Mark × Value)) ⊎ (Places
    ⊎ ((ℕ × (Reading × Reading)) ⊎ ((ℕ × (Mark × Sentence))
    ⊎ (ℕ × (Mark × (List Param × (List LineForm × Unit {0})))))))))))

-- the declaration of these parts
abbrev pub to_item : AnyItem → ItemForm
to_item (inl x) = sort_form x.0 x.1
to_item (inr (inl x)) = const_form x.0 x.1.0 x.1.1.1
to_item (inr (inr (inl x))) = relation_form x.0 x.1.0 x.1.1
to_item (inr (inr (inr (inl x)))) = counter_form x.0 x.1.0 x.1.1
to_item (inr (inr (inr (inr (inl x))))) = initially_form x.0 x.1.0 x.1.1
to_item (inr (inr (inr (inr (inr (inl x)))))) = token_form x.0 x.1.0 x.1.1
to_item (inr (inr (inr (inr (inr (inr (inl x))))))) = conflict_form x.0 x.1.0 x.1.1
to_item (inr (inr (inr (inr (inr (inr (inr (inl x)))))))) = invariant_form x.0 x.1.0 x.1.1
to_item (inr (inr (inr (inr (inr (inr (inr (inr x)))))))) =
    operation_form x.0 x.1.0 x.1.1.0 x.1.1.1.0

-- reads a declaration, by the word that it begins with
unfoldable pub item_at : Version → ℕ → List Token → Read ItemForm
item_at v d =
    mapped to_item
    (either (is_key keys.Sort) (sort_at v)
    (either (is_key keys.Const) (const_at v)
    (either (is_key keys.Relation) (places_at keys.Relation v)
    (either (is_key keys.Counter) (places_at keys.Counter v)
    (either (is_key keys.Initially) (initially_at v)
    (either (is_key keys.Token) (places_at keys.Token v)
    (either (is_key keys.Conflict) (conflict_at v)
    (either (is_key keys.Invariant) (invariant_at v d) (operation_at v d)))))))))

-- a word with which a declaration begins
abbrev pub starts_item : Kind → Bool
starts_item k =
    is_key keys.Sort k
    || (is_key keys.Const k || (is_key keys.Relation k || (is_key keys.Counter k
    || (is_key keys.Initially k || (is_key keys.Token k || (is_key keys.Conflict k
    || (is_key keys.Invariant k || is_key keys.Operation k)))))))

-- reads declarations, as long as a word begins one
unfoldable pub items_at : Version → ℕ → List Token → Read (List ItemForm)
items_at v d = many starts_item (item_at v d)

-- ---- the whole

-- the number 1
abbrev pub is_one : Kind → Bool
is_one kind.One = true
is_one _ = false

-- the number 2
abbrev pub is_two : Kind → Bool
is_two kind.Two = true
is_two _ = false

-- a tree of its version and its declarations
abbrev pub to_tree : Unit {0} × ((Unit {0} × List ItemForm) ⊎ (Unit {0} × List ItemForm)) → TreeForm
to_tree (u, inl x) = record { version = version.First; items = x.1 }
to_tree (u, inr x) = record { version = version.Second; items = x.1 }

-- reads a specification
unfoldable pub tree_at : ℕ → List Token → Read TreeForm
tree_at d =
    mapped to_tree
    (both (sign_at keys.Cise)
    (either is_one (both (word_at is_one (λ t. tt)) (items_at version.First d))
    (both (word_at is_two (λ t. tt)) (items_at version.Second d))))

-- all of the words
unfoldable pub whole_at : ℕ → List Token → Result TreeForm ℕ
whole_at d ws = tree_at d ws >>= λ x. if (length x.1 == 0) then Ok x.0 else Err (length x.1)

-- the version, as the code reads it
abbrev pub version_at : List Token → Read Version
version_at [] = Err 0
version_at (t ∷ ts) =
    if is_one (kind_of t.symbol) then Ok (version.First, ts)
    else (if is_two (kind_of t.symbol) then Ok (version.Second, ts) else Err (suc (length ts)))

-- reads a specification so
abbrev pub tree_by : ℕ → List Token → Read TreeForm
tree_by d ws =
    sign_at keys.Cise ws >>= λ a. version_at a.1 >>= λ v. items_at v.0 d v.1
    >>= λ y. Ok (record { version = v.0; items = y.0 }, y.1)

-- reads all of the words so
abbrev pub whole_by : ℕ → List Token → Result TreeForm ℕ
whole_by d ws = tree_by d ws >>= λ x. if (length x.1 == 0) then Ok x.0 else Err (length x.1)

-- ---- formulas, as the code reads them

-- reads `true`
abbrev pub true_at : List Token → Read Form
true_at = mapped true_form (key_at keys.True)

-- reads `false`
abbrev pub false_at : List Token → Read Form
false_at = mapped false_form (key_at keys.False)

-- reads an atom
abbrev pub has_at : Version → List Token → Read Form
has_at v = mapped (λ (r : ℕ × Reading). has_form r.0 r.1) (atom_at v)

-- reads a sign that compares, and a sum
abbrev pub compared_with_at : Version → List Token → Read (Comparison × Term)
compared_with_at v = both comparison_at (term_at v)

-- reads a word that connects, and a formula
abbrev pub connected_with_at : (List Token → Read Form) → List Token → Read (Connective × Form)
connected_with_at r = both connective_at r

-- two formulas, connected
abbrev pub to_connected : Form × (Connective × Form) → Inside
to_connected x = connected x.0 x.1.0 x.1.1

-- reads two formulas and what connects them
abbrev pub connected_at : (List Token → Read Form) → List Token → Read Inside
connected_at r = mapped to_connected (both r (connected_with_at r))

-- the formula of what stood in brackets, with the place of the opening one
abbrev pub closed_by : ℕ → Inside → Form
closed_by w (compared s c t) = compare_form w s c t
closed_by w (connected f c g) = connect_form w f c g

-- ---- lines and items, as the code reads them

-- reads a requires line
abbrev pub requires_line_at : Version → ℕ → List Token → Read LineForm
requires_line_at v d = mapped (λ (x : ℕ × Sentence). requires_form x.0 x.1) (requires_at v d)

-- reads an insert line
abbrev pub insert_at : Version → ℕ → List Token → Read LineForm
insert_at v d =
    mapped (λ (x : Change). insert_form x.0 x.1.0 x.1.1.0 x.1.1.1) (change_at keys.Insert v d)

-- reads a remove line
abbrev pub remove_at : Version → ℕ → List Token → Read LineForm
remove_at v d =
    mapped (λ (x : Change). remove_form x.0 x.1.0 x.1.1.0 x.1.1.1) (change_at keys.Remove v d)

-- reads an add line
abbrev pub add_at : Version → ℕ → List Token → Read LineForm
add_at v d =
    mapped (λ (x : Amount). add_form x.0 x.1.0 x.1.1.0 x.1.1.1.0 x.1.1.1.1) (amount_at keys.Add v d)

-- reads a set line
abbrev pub set_at : Version → ℕ → List Token → Read LineForm
set_at v d =
    mapped (λ (x : Amount). set_form x.0 x.1.0 x.1.1.0 x.1.1.1.0 x.1.1.1.1) (amount_at keys.Set v d)

-- reads a takes line
abbrev pub takes_line_at : Version → List Token → Read LineForm
takes_line_at v = mapped (λ (x : ℕ × (Reading × Mode)). takes_form x.0 x.1.0 x.1.1) (takes_at v)

-- reads the declaration of a sort
abbrev pub sort_item_at : Version → List Token → Read ItemForm
sort_item_at v = mapped (λ (x : ℕ × Mark). sort_form x.0 x.1) (sort_at v)

-- reads that of a constant
abbrev pub const_item_at : Version → List Token → Read ItemForm
const_item_at v =
    mapped (λ (x : ℕ × (Mark × (Unit {0} × Mark))). const_form x.0 x.1.0 x.1.1.1) (const_at v)

-- reads that of a relation
abbrev pub relation_item_at : Version → List Token → Read ItemForm
relation_item_at v =
    mapped (λ (x : Places). relation_form x.0 x.1.0 x.1.1) (places_at keys.Relation v)

-- reads that of a counter
abbrev pub counter_item_at : Version → List Token → Read ItemForm
counter_item_at v = mapped (λ (x : Places). counter_form x.0 x.1.0 x.1.1) (places_at keys.Counter v)

-- reads an initial value
abbrev pub initially_item_at : Version → List Token → Read ItemForm
initially_item_at v =
    mapped (λ (x : ℕ × (Mark × Value)). initially_form x.0 x.1.0 x.1.1) (initially_at v)

-- reads the declaration of a token
abbrev pub token_item_at : Version → List Token → Read ItemForm
token_item_at v = mapped (λ (x : Places). token_form x.0 x.1.0 x.1.1) (places_at keys.Token v)

-- reads a conflict rule
abbrev pub conflict_item_at : Version → List Token → Read ItemForm
conflict_item_at v =
    mapped (λ (x : ℕ × (Reading × Reading)). conflict_form x.0 x.1.0 x.1.1) (conflict_at v)

-- reads an invariant
abbrev pub invariant_item_at : Version → ℕ → List Token → Read ItemForm
invariant_item_at v d =
    mapped (λ (x : ℕ × (Mark × Sentence)). invariant_form x.0 x.1.0 x.1.1) (invariant_at v d)

-- reads an operation
abbrev pub operation_item_at : Version → ℕ → List Token → Read ItemForm
operation_item_at v d =
    mapped
    (λ (x : ℕ × (Mark × (List Param × (List LineForm × Unit {0})))).
    operation_form x.0 x.1.0 x.1.1.0 x.1.1.1.0)
    (operation_at v d)
