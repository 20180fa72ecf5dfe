-- Formulas, and formulas with their variables.
use Rattle.std.specs.Prelude.{ℕ, ◌+◌, nat_le, Bool, true, false, if◌then◌else◌, List, [], ◌∷◌, take, length, min, Option, None, Some, unwrap_or}
use Rattle.spec_core.specs.declared.formula.Elem.{Elem}
use Rattle.spec_core.specs.declared.formula.Cmp.{Cmp}
use Rattle.spec_core.specs.declared.formula.Cmp.TheVariants as cmp
use Rattle.spec_core.specs.declared.line.Prefix.{Prefix as CorePrefix}
use Rattle.spec_core.specs.declared.line.Prefix.TheVariants as prefixes
use Rattle.spec_core.specs.Form.{true_form as true_of, false_form as false_of, not_form as not_of, and_form, or_form, implies_form, has_form as has_of, same_form, differ_form, compare_form as compare_of}
use Rattle.spec_core.specs.Form as core
use Rattle.spec_core.specs.Line.{Line}
use Rattle.spec_core.specs.Limits.{most_variables, most_nodes}
use Rattle.spec_core.specs.Specification.{relation_places}
use Rattle.spec_core.specs.Typed.{same_sort}
use Rattle.spec_trees.specs.declared.tree.Mark.{Mark}
use Rattle.spec_trees.specs.declared.tree.Reading.{Reading}
use Rattle.spec_trees.specs.declared.tree.Product.{Product}
use Rattle.spec_trees.specs.declared.tree.Product.TheVariants as products
use Rattle.spec_trees.specs.declared.tree.Signed.{Signed}
use Rattle.spec_trees.specs.declared.tree.Term.{Term}
use Rattle.spec_trees.specs.declared.tree.Comparison.{Comparison}
use Rattle.spec_trees.specs.declared.tree.Comparison.TheVariants as comparisons
use Rattle.spec_trees.specs.declared.tree.Connective.{Connective}
use Rattle.spec_trees.specs.declared.tree.Connective.TheVariants as connectives
use Rattle.spec_trees.specs.declared.tree.Variable.{Variable}
use Rattle.spec_trees.specs.declared.tree.Quantifier.{Quantifier}
use Rattle.spec_trees.specs.declared.tree.Quantifier.TheVariants as quantifiers
use Rattle.spec_trees.specs.declared.tree.Prefix.{Prefix}
use Rattle.spec_trees.specs.Form.{Form, true_form, false_form, not_form, connect_form, has_form, compare_form, Sentence}
use Rattle.typing_rules.specs.declared.which.Which.TheVariants.{Nodes, Variables}
use Rattle.typing_rules.specs.Fault.{Fault, limit_fault, ◌otherwise◌, first_fault, kind_at, limit_at}
use Rattle.typing_rules.specs.Scope.{Names, Scope, stranger_fault, declared_fault, sort_fault, relation_meant, var_sorts}
use Rattle.typing_rules.specs.Terms.{sort_named, elem_of, elems_of, args_fault, term_fault, term_of}

-- ---- atoms and comparisons

-- the same, where it is known which relation the name is
abbrev pub atom_fault_at : Scope → Reading → Option ℕ → Option Fault
atom_fault_at sc r (Some k) = args_fault sc r (relation_places sc.design k)
atom_fault_at sc r None = stranger_fault sc r.name

-- an atom is a relation with its arguments
abbrev pub atom_fault : Scope → Reading → Option Fault
atom_fault sc r = atom_fault_at sc r (relation_meant (sc.names r.name.text))

-- the name of a reading without arguments
abbrev pub lone_of_reading : Reading → List Mark → Option Mark
lone_of_reading r [] = Some r.name
lone_of_reading r (m ∷ ms) = None

-- the name that a product is, where it is one name alone
abbrev pub lone_of_product : Product → Option Mark
lone_of_product (products.Number f) = None
lone_of_product (products.Times f r) = None
lone_of_product (products.Reading r) = lone_of_reading r r.args

-- the name that a sum is, where it has one summand
abbrev pub lone_of_more : Product → List Signed → Option Mark
lone_of_more p [] = lone_of_product p
lone_of_more p (s ∷ ss) = None

-- the name that a term is, where it is one name alone
abbrev pub lone_name : Term → Option Mark
lone_name t = if t.minus then None else lone_of_more t.first.product t.more

-- a name that has a sort
abbrev pub sorted_only : Option ℕ → Mark → Option Mark
sorted_only None m = None
sorted_only (Some s) m = Some m

-- a name that stands for an element
abbrev pub element_by : Scope → Option Mark → Option Mark
element_by sc None = None
element_by sc (Some m) = sorted_only (sort_named sc m.text) m

-- the name that a term is, where it is one name alone, of a constant, a variable or a parameter of a sort
abbrev pub element_alone : Scope → Term → Option Mark
element_alone sc t = element_by sc (lone_name t)

-- the comparison is `=` or `!=`
abbrev pub is_equality : Comparison → Bool
is_equality comparisons.Equal = true
is_equality comparisons.Unequal = true
is_equality comparisons.Less = false
is_equality comparisons.AtMost = false
is_equality comparisons.Greater = false
is_equality comparisons.AtLeast = false

-- the element on one side of an equality; other comparisons are of numbers
abbrev pub side_element : Scope → Comparison → Term → Option Mark
side_element sc c t = if is_equality c then element_alone sc t else None

-- two elements are compared where they are of one sort
abbrev pub sorts_fault : Scope → Mark → Mark → Option Fault
sorts_fault sc a b =
    if same_sort (sort_named sc a.text) (sort_named sc b.text) then None else kind_at b

-- what is wrong with two terms
abbrev pub terms_fault : Scope → Term → Term → Option Fault
terms_fault sc s t = term_fault sc s otherwise term_fault sc t

-- two elements, or else two terms
abbrev pub compared_fault : Scope → Term → Term → Option Mark → Option Mark → Option Fault
compared_fault sc s t (Some a) (Some b) = sorts_fault sc a b
compared_fault sc s t (Some a) None = terms_fault sc s t
compared_fault sc s t None b = terms_fault sc s t

-- Elements are compared where both sides of an equality are elements, and else numbers.
abbrev pub compare_fault : Scope → Term → Comparison → Term → Option Fault
compare_fault sc s c t = compared_fault sc s t (side_element sc c s) (side_element sc c t)

-- ---- formulas

-- What is wrong with a formula's atoms and comparisons, in their order.
abbrev pub parts_fault : Scope → Form → Option Fault
parts_fault sc (true_form w) = None
parts_fault sc (false_form w) = None
parts_fault sc (not_form w f) = parts_fault sc f
parts_fault sc (connect_form w f c g) = parts_fault sc f otherwise parts_fault sc g
parts_fault sc (has_form w r) = atom_fault sc r
parts_fault sc (compare_form w s c t) = compare_fault sc s c t

-- how many nodes a formula has: truth values, `not`, connectives, atoms and comparisons
abbrev pub node_count : Form → ℕ
node_count (true_form w) = 1
node_count (false_form w) = 1
node_count (not_form w f) = 1 + node_count f
node_count (connect_form w f c g) = 1 + (node_count f + node_count g)
node_count (has_form w r) = 1
node_count (compare_form w s c t) = 1

-- the place of a formula's first word
abbrev pub first_word : Form → ℕ
first_word (true_form w) = w
first_word (false_form w) = w
first_word (not_form w f) = w
first_word (connect_form w f c g) = w
first_word (has_form w r) = w
first_word (compare_form w s c t) = w

-- few nodes; words are numbered below 2^32, so no text has more than 2^32 nodes
abbrev pub nodes_fault : Form → Option Fault
nodes_fault f =
    if nat_le (node_count f) most_nodes then None
    else Some (limit_fault Nodes (min (node_count f) 4294967296) (first_word f))

-- what is wrong with a formula: that it has too many nodes, and then its parts
abbrev pub formula_fault : Scope → Form → Option Fault
formula_fault sc f = nodes_fault f otherwise parts_fault sc f

-- ---- the formula that a tree's formula is

-- the comparison of numbers
abbrev pub cmp_of : Comparison → Cmp
cmp_of comparisons.Equal = cmp.Equal
cmp_of comparisons.Unequal = cmp.Unequal
cmp_of comparisons.Less = cmp.Less
cmp_of comparisons.AtMost = cmp.AtMost
cmp_of comparisons.Greater = cmp.Greater
cmp_of comparisons.AtLeast = cmp.AtLeast

-- the comparison is `!=`
abbrev pub is_unequal : Comparison → Bool
is_unequal comparisons.Equal = false
is_unequal comparisons.Unequal = true
is_unequal comparisons.Less = false
is_unequal comparisons.AtMost = false
is_unequal comparisons.Greater = false
is_unequal comparisons.AtLeast = false

-- two elements are one, or aren't
abbrev pub elements_of : Comparison → Elem → Elem → core.Form
elements_of c a b = if is_unequal c then differ_form a b else same_form a b

-- a comparison of elements where both sides are elements, and else of numbers
abbrev pub compared_of : Scope → Term → Comparison → Term → Option Mark → Option Mark → core.Form
compared_of sc s c t (Some a) (Some b) = elements_of c (elem_of sc a) (elem_of sc b)
compared_of sc s c t (Some a) None = compare_of (term_of sc s) (cmp_of c) (term_of sc t)
compared_of sc s c t None b = compare_of (term_of sc s) (cmp_of c) (term_of sc t)

-- two formulas, connected
abbrev pub connected_of : Connective → core.Form → core.Form → core.Form
connected_of connectives.And f g = and_form f g
connected_of connectives.Or f g = or_form f g
connected_of connectives.Implies f g = implies_form f g

-- what is no relation stands for the first one, and is refused
abbrev pub atom_of : Scope → Reading → core.Form
atom_of sc r = has_of (unwrap_or (relation_meant (sc.names r.name.text)) 0) (elems_of sc r.args)

-- The formula that a tree's formula is.
abbrev pub formula_of : Scope → Form → core.Form
formula_of sc (true_form w) = true_of
formula_of sc (false_form w) = false_of
formula_of sc (not_form w f) = not_of (formula_of sc f)
formula_of sc (connect_form w f c g) = connected_of c (formula_of sc f) (formula_of sc g)
formula_of sc (has_form w r) = atom_of sc r
formula_of sc (compare_form w s c t) =
    compared_of sc s c t (side_element sc c s) (side_element sc c t)

-- ---- variables

-- the scope with these variables
abbrev pub with_vars : Scope → List Variable → Scope
with_vars sc vs = record sc { vars = vs }

-- a variable, where those before it are in scope
abbrev pub variable_fault : Scope → ℕ → Variable → Option Fault
variable_fault sc n v =
    declared_fault sc v.name
    otherwise limit_at Variables most_variables n v.name.word
    otherwise sort_fault sc v.name.text v.sort

-- what is wrong with some variables, in their order
abbrev pub variables_fault : Scope → List Variable → Option Fault
variables_fault sc vs = first_fault (λ n v. variable_fault (with_vars sc (take n vs)) n v) 0 vs

-- the variables of a prefix
abbrev pub vars_of : Option Prefix → List Variable
vars_of None = []
vars_of (Some p) = p.vars

-- a formula with its variables
abbrev pub sentence_fault : Scope → Sentence → Option Fault
sentence_fault sc s =
    variables_fault sc (vars_of s.prefix) otherwise formula_fault
    (with_vars sc (vars_of s.prefix)) s.body

-- the prefix of a quantifier
abbrev pub quantified : Quantifier → CorePrefix
quantified quantifiers.Forall = prefixes.Forall
quantified quantifiers.Exists = prefixes.Exists

-- the prefix that stands there, if any
abbrev pub prefix_of : Option Prefix → CorePrefix
prefix_of None = prefixes.Plain
prefix_of (Some p) = quantified p.quantifier

-- The line that a formula with its variables is.
abbrev pub sentence_of : Scope → Sentence → Line
sentence_of sc s = record {
  prefix = prefix_of s.prefix;
  vars = var_sorts sc.names (vars_of s.prefix);
  body = formula_of (with_vars sc (vars_of s.prefix)) s.body;
}
