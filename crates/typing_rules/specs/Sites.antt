-- What stands at the words of a tree, each in its scope: the names that are declared before it, whatever is wrong with their
-- declarations.
use Rattle.std.specs.Prelude.{ℕ, ◌+◌, ◌==◌, Bool, false, ◌||◌, List, [], ◌∷◌, ◌++◌, length, count_by, Option, None, Some, is_some, option_map}
use Rattle.std.specs.Option.{option_or}
use Rattle.spec_core.specs.declared.operation.Operation.{Operation}
use Rattle.spec_core.specs.Limits.{most_sorts, most_constants, most_relations, most_places, most_counters, most_keys, most_tokens, most_rules, most_invariants, most_operations, most_parameters, most_requires, most_updates, most_takes, most_variables, most_summands}
use Rattle.spec_core.specs.Specification.{Specification, relation_places, counter_keys, token_places}
use Rattle.spec_core.specs.Typed.{is_sort}
use Rattle.spec_trees.specs.declared.tree.Mark.{Mark}
use Rattle.spec_trees.specs.declared.tree.Figure.{Figure}
use Rattle.spec_trees.specs.declared.tree.Reading.{Reading}
use Rattle.spec_trees.specs.declared.tree.Product.{Product}
use Rattle.spec_trees.specs.declared.tree.Product.TheVariants as products
use Rattle.spec_trees.specs.declared.tree.Signed.{Signed}
use Rattle.spec_trees.specs.declared.tree.Term.{Term}
use Rattle.spec_trees.specs.declared.tree.Variable.{Variable}
use Rattle.spec_trees.specs.declared.tree.Quantifier.{Quantifier}
use Rattle.spec_trees.specs.declared.tree.Quantifier.TheVariants as quantifiers
use Rattle.spec_trees.specs.declared.tree.Prefix.{Prefix}
use Rattle.spec_trees.specs.declared.tree.Param.{Param}
use Rattle.spec_trees.specs.declared.tree.ParamKind.{ParamKind}
use Rattle.spec_trees.specs.declared.tree.ParamKind.TheVariants as kinds
use Rattle.spec_trees.specs.declared.tree.Spot.{Spot}
use Rattle.spec_trees.specs.declared.tree.Spot.TheVariants as spots
use Rattle.spec_trees.specs.declared.tree.Value.{Value}
use Rattle.spec_trees.specs.declared.tree.Value.TheVariants as values
use Rattle.spec_trees.specs.Form.{Form, true_form, false_form, not_form, connect_form, has_form, compare_form, Sentence, LineForm, requires_form, insert_form, remove_form, add_form, set_form, takes_form, observes_form, ItemForm, sort_form, const_form, relation_form, counter_form, initially_form, token_form, conflict_form, invariant_form, operation_form, TreeForm}
use Rattle.typing_rules.specs.declared.meaning.Meaning.TheVariants as meaning
use Rattle.typing_rules.specs.declared.which.Which.{Which}
use Rattle.typing_rules.specs.declared.which.Which.TheVariants as which
use Rattle.typing_rules.specs.Scope.{Scope, sort_meant, relation_meant, counter_meant, token_meant}
use Rattle.typing_rules.specs.Terms.{sort_named, number_named}
use Rattle.typing_rules.specs.Formulas.{side_element, with_vars, vars_of}
use Rattle.typing_rules.specs.Lines.{most_observed, with_line}
use Rattle.typing_rules.specs.Items.{Known, scope_in, first_sort, with_sort, with_const, with_relation, with_counter, with_token, with_initial, with_rule, with_heading, with_invariant, with_params, without_lines, nothing_known}

-- ---- what a name has to be where it is used

-- What a name needs to be at its place.
pub data Need : Type 0 where
  a_sort : Need
  -- a constant, a parameter or a variable of this sort, or of some sort
  an_element_of : ℕ → Need
  an_element : Need
  a_relation : Need
  a_counter : Need
  a_token : Need
  -- a parameter that is a whole number, or a counter without keys
  a_number : Need

-- the counter, if it is one, has no keys
abbrev pub has_no_keys : Specification → Option ℕ → Bool
has_no_keys d None = false
has_no_keys d (Some k) = length (counter_keys d k) == 0

-- a name is in this scope what it has to be
abbrev pub meets : Scope → Need → List ℕ → Bool
meets sc a_sort name = is_some (sort_meant (sc.names name))
meets sc (an_element_of s) name = is_sort (sort_named sc name) s
meets sc an_element name = is_some (sort_named sc name)
meets sc a_relation name = is_some (relation_meant (sc.names name))
meets sc a_counter name = is_some (counter_meant (sc.names name))
meets sc a_token name = is_some (token_meant (sc.names name))
meets sc a_number name =
    is_some (number_named sc name) || has_no_keys sc.design (counter_meant (sc.names name))

-- ---- what may stand at a word

-- A place of a tree at which one rule may be broken, with what the rule asks of it.
pub data Site : Type 0 where
  -- a name is declared, where this is the scope before it
  declared : Scope → Mark → Site
  -- a name is used in a scope
  used : Scope → Need → Mark → Site
  -- a name that has so many places or keys stands with so many arguments, spots or pattern names
  applied : ℕ → ℕ → Mark → Site
  -- One more of something of which there may be `most`, where there are n before it, at a word.
  one_more : Which → (most n word : ℕ) → Site
  -- a whole formula: that of a line, of an invariant or of a `when`
  formula : Form → Site
  -- a literal or a coefficient
  literal : Figure → Site
  -- an initial value is stated for a name
  stated : Known → Mark → Site
  -- two elements are compared
  compared : Scope → Mark → Mark → Site
  -- an invariant begins with `exists`
  claimed_exists : ℕ → Site
  -- a rule variable in a pattern
  rule_variable : Known → Mark → Site
  -- in the rule of two patterns a variable stands at a place of a sort
  rule_place : Known → (p q : Reading) → (sort : ℕ) → Mark → Site

-- ---- elements, amounts and terms

-- names behind one that has places of these sorts
abbrev pub element_sites : Scope → List ℕ → List Mark → List Site
element_sites sc ss [] = []
element_sites sc [] (m ∷ ms) = used sc an_element m ∷ element_sites sc [] ms
element_sites sc (s ∷ ss) (m ∷ ms) = used sc (an_element_of s) m ∷ element_sites sc ss ms

-- the arguments of a name, by the places that it has, if it has any
abbrev pub argument_sites : Scope → Reading → Option (List ℕ) → List Site
argument_sites sc r None = element_sites sc [] r.args
argument_sites sc r (Some places) =
    applied (length places) (length r.args) r.name ∷ element_sites sc places r.args

-- an atom
abbrev pub atom_sites : Scope → Reading → List Site
atom_sites sc r =
    used sc a_relation r.name
    ∷ argument_sites sc r (option_map (relation_places sc.design)
    (relation_meant (sc.names r.name.text)))

-- a name alone in an amount; where it is no parameter and a counter, it has no arguments
abbrev pub lone_sites : Scope → Mark → Option ℕ → Option ℕ → List Site
lone_sites sc m (Some n) counter = used sc a_number m ∷ []
lone_sites sc m None (Some k) =
    used sc a_number m ∷ applied (length (counter_keys sc.design k)) 0 m ∷ []
lone_sites sc m None None = used sc a_number m ∷ []

-- a counter with arguments in an amount
abbrev pub count_sites : Scope → Reading → List Site
count_sites sc r =
    used sc a_counter r.name
    ∷ argument_sites sc r (option_map (counter_keys sc.design)
    (counter_meant (sc.names r.name.text)))

-- a name alone, or a counter with its keys
abbrev pub amount_sites_by : Scope → Reading → List Mark → List Site
amount_sites_by sc r [] =
    lone_sites sc r.name (number_named sc r.name.text) (counter_meant (sc.names r.name.text))
amount_sites_by sc r (m ∷ ms) = count_sites sc r

-- what is read in a term
abbrev pub amount_sites : Scope → Reading → List Site
amount_sites sc r = amount_sites_by sc r r.args

-- the number and the reading of a product
abbrev pub product_sites : Scope → Product → List Site
product_sites sc (products.Number f) = literal f ∷ []
product_sites sc (products.Times f r) = literal f ∷ amount_sites sc r
product_sites sc (products.Reading r) = amount_sites sc r

-- summands behind n others
abbrev pub signed_sites : Scope → ℕ → List Signed → List Site
signed_sites sc n [] = []
signed_sites sc n (s ∷ ss) =
    one_more which.Summands most_summands n s.summand.word
    ∷ (product_sites sc s.summand.product ++ signed_sites sc (n + 1) ss)

-- the summands of a term
abbrev pub term_sites : Scope → Term → List Site
term_sites sc t = product_sites sc t.first.product ++ signed_sites sc 1 t.more

-- ---- formulas

-- Elements are compared where both sides of an equality are elements, and else numbers.
abbrev pub compare_sites : Scope → Term → Term → Option Mark → Option Mark → List Site
compare_sites sc s t (Some a) (Some b) = compared sc a b ∷ []
compare_sites sc s t (Some a) None = term_sites sc s ++ term_sites sc t
compare_sites sc s t None b = term_sites sc s ++ term_sites sc t

-- the atoms and comparisons of a formula
abbrev pub part_sites : Scope → Form → List Site
part_sites sc (true_form w) = []
part_sites sc (false_form w) = []
part_sites sc (not_form w f) = part_sites sc f
part_sites sc (connect_form w f c g) = part_sites sc f ++ part_sites sc g
part_sites sc (has_form w r) = atom_sites sc r
part_sites sc (compare_form w s c t) =
    compare_sites sc s t (side_element sc c s) (side_element sc c t)

-- a formula as a whole, and its parts
abbrev pub formula_sites : Scope → Form → List Site
formula_sites sc f = formula f ∷ part_sites sc f

-- Variables behind others of the same prefix. A variable is in scope from its own word on.
abbrev pub variable_sites : Scope → List Variable → List Variable → List Site
variable_sites sc before [] = []
variable_sites sc before (v ∷ vs) =
    declared (with_vars sc before) v.name
    ∷ one_more which.Variables most_variables (length before) v.name.word
    ∷ used (with_vars sc (before ++ v ∷ [])) a_sort v.sort ∷ variable_sites sc (before ++ v ∷ []) vs

-- a formula with its variables
abbrev pub sentence_sites : Scope → Sentence → List Site
sentence_sites sc s =
    variable_sites sc [] (vars_of s.prefix)
    ++ formula_sites (with_vars sc (vars_of s.prefix)) s.body

-- ---- lines of an operation

-- the spots at places of these sorts
abbrev pub spot_sites : Scope → List ℕ → List Spot → List Site
spot_sites sc ss [] = []
spot_sites sc [] (spots.Every ∷ xs) = spot_sites sc [] xs
spot_sites sc (s ∷ ss) (spots.Every ∷ xs) = spot_sites sc ss xs
spot_sites sc [] (spots.One m ∷ xs) = used sc an_element m ∷ spot_sites sc [] xs
spot_sites sc (s ∷ ss) (spots.One m ∷ xs) = used sc (an_element_of s) m ∷ spot_sites sc ss xs

-- the name that an update changes, and its spots
abbrev pub target_sites : Scope → Need → Mark → List Spot → Option (List ℕ) → List Site
target_sites sc need m xs None = used sc need m ∷ spot_sites sc [] xs
target_sites sc need m xs (Some places) =
    used sc need m ∷ applied (length places) (length xs) m ∷ spot_sites sc places xs

-- what is inserted into or removed from, and what is added to or set
abbrev pub relation_sites : Scope → Mark → List Spot → List Site
relation_sites sc m xs =
    target_sites sc a_relation m xs
    (option_map (relation_places sc.design) (relation_meant (sc.names m.text)))

-- the counter that an update changes, and its spots
abbrev pub counter_sites : Scope → Mark → List Spot → List Site
counter_sites sc m xs =
    target_sites sc a_counter m xs
    (option_map (counter_keys sc.design) (counter_meant (sc.names m.text)))

-- the condition of an update, where there is one
abbrev pub guard_sites : Scope → Option Form → List Site
guard_sites sc None = []
guard_sites sc (Some f) = formula_sites sc f

-- what is taken
abbrev pub taking_sites : Scope → Reading → List Site
taking_sites sc r =
    used sc a_token r.name
    ∷ argument_sites sc r (option_map (token_places sc.design) (token_meant (sc.names r.name.text)))

-- a line behind those that an operation has
abbrev pub line_sites : Scope → Operation → LineForm → List Site
line_sites sc o (requires_form w s) =
    one_more which.Requires most_requires (length o.requires_) w ∷ sentence_sites sc s
line_sites sc o (insert_form w m xs g) =
    one_more which.Updates most_updates (length o.updates) w
    ∷ (relation_sites sc m xs ++ guard_sites sc g)
line_sites sc o (remove_form w m xs g) =
    one_more which.Updates most_updates (length o.updates) w
    ∷ (relation_sites sc m xs ++ guard_sites sc g)
line_sites sc o (add_form w m xs t g) =
    one_more which.Updates most_updates (length o.updates) w
    ∷ (counter_sites sc m xs ++ (term_sites sc t ++ guard_sites sc g))
line_sites sc o (set_form w m xs t g) =
    one_more which.Updates most_updates (length o.updates) w
    ∷ (counter_sites sc m xs ++ (term_sites sc t ++ guard_sites sc g))
line_sites sc o (takes_form w r m) =
    one_more which.Takes most_takes (length o.takes) w ∷ taking_sites sc r
line_sites sc o (observes_form w s) =
    one_more which.Observes (most_observed sc.design) (length o.observes) w ∷ sentence_sites sc s

-- the lines of an operation, each with those before it
abbrev pub lines_sites : Scope → Operation → List LineForm → List Site
lines_sites sc o [] = []
lines_sites sc o (l ∷ ls) = line_sites sc o l ++ lines_sites sc (with_line sc o l) ls

-- the operation with these lines
abbrev pub operation_behind : Scope → Operation → List LineForm → Operation
operation_behind sc o [] = o
operation_behind sc o (l ∷ ls) = operation_behind sc (with_line sc o l) ls

-- the sort of a parameter, where it is one
abbrev pub kind_sites : Scope → ParamKind → List Site
kind_sites sc (kinds.Sort m) = used sc a_sort m ∷ []
kind_sites sc kinds.Int = []

-- Parameters behind others of the same operation. A parameter is in scope from its own word on.
abbrev pub param_sites : Scope → List Param → List Param → List Site
param_sites sc before [] = []
param_sites sc before (p ∷ ps) =
    declared (with_params sc before) p.name
    ∷ one_more which.Parameters most_parameters (length before) p.name.word
    ∷ (kind_sites (with_params sc (before ++ p ∷ [])) p.kind
    ++ param_sites sc (before ++ p ∷ []) ps)

-- ---- items

-- a name of the whole specification is declared, of a kind of which there may be so many
abbrev pub heading_sites : Known → Which → ℕ → ℕ → Mark → List Site
heading_sites k which most n m = declared (scope_in k) m ∷ one_more which most n m.word ∷ []

-- the sorts of places or keys, behind n others
abbrev pub place_sites : Scope → ℕ → ℕ → List Mark → List Site
place_sites sc most n [] = []
place_sites sc most n (m ∷ ms) =
    used sc a_sort m ∷ one_more which.Places most n m.word ∷ place_sites sc most (n + 1) ms

-- constants are counted by their sorts
abbrev pub few_const_sites : Specification → Mark → Option ℕ → List Site
few_const_sites d m None = []
few_const_sites d m (Some s) =
    one_more which.Constants most_constants (count_by (λ c. c.sort == s) d.consts) m.word ∷ []

-- what has an initial value of this kind
abbrev pub need_of_value : Value → Need
need_of_value values.True = a_relation
need_of_value values.False = a_relation
need_of_value (values.Number minus f) = a_counter

-- the number of an initial value, where it is one
abbrev pub value_sites : Value → List Site
value_sites values.True = []
value_sites values.False = []
value_sites (values.Number minus f) = literal f ∷ []

-- the sorts of a token's places
abbrev pub sorts_at : Specification → Option ℕ → List ℕ
sorts_at d None = []
sorts_at d (Some t) = token_places d t

-- the sort of the first place at which a variable stands in a rule; what isn't behind a token stands at no place
abbrev pub first_place_sort : Known → Reading → Reading → List ℕ → Option ℕ
first_place_sort k p q name =
    option_or (first_sort name (sorts_at k.design (token_meant (k.names p.name.text))) p.args)
    (first_sort name (sorts_at k.design (token_meant (k.names q.name.text))) q.args)

-- the variables of a pattern of a rule, whose token has places of these sorts
abbrev pub pattern_variable_sites : Known → Reading → Reading → List ℕ → List Mark → List Site
pattern_variable_sites k p q ss [] = []
pattern_variable_sites k p q [] (m ∷ ms) = rule_variable k m ∷ pattern_variable_sites k p q [] ms
pattern_variable_sites k p q (s ∷ ss) (m ∷ ms) =
    rule_variable k m ∷ rule_place k p q s m ∷ pattern_variable_sites k p q ss ms

-- the token of a pattern, and its variables
abbrev pub pattern_sites_at : Known → Reading → Reading → Reading → Option (List ℕ) → List Site
pattern_sites_at k p q r None = pattern_variable_sites k p q [] r.args
pattern_sites_at k p q r (Some places) =
    applied (length places) (length r.args) r.name ∷ pattern_variable_sites k p q places r.args

-- one of the two patterns of a rule
abbrev pub pattern_sites : Known → Reading → Reading → Reading → List Site
pattern_sites k p q r =
    used (scope_in k) a_token r.name
    ∷ pattern_sites_at k p q r (option_map (token_places k.design)
    (token_meant (k.names r.name.text)))

-- an invariant that begins with `exists`
abbrev pub some_sites : ℕ → Quantifier → List Site
some_sites w quantifiers.Forall = []
some_sites w quantifiers.Exists = claimed_exists w ∷ []

-- the quantifier of an invariant
abbrev pub exists_sites : Option Prefix → List Site
exists_sites None = []
exists_sites (Some p) = some_sites p.word p.quantifier

-- an operation behind its own name
abbrev pub operation_sites : Known → Mark → List Param → List LineForm → List Site
operation_sites k m ps ls =
    param_sites (scope_in k) [] ps
    ++ lines_sites (with_params (scope_in k) ps) (without_lines k m ps) ls

-- An item behind those that are known. A name that it declares is in scope from its own word on.
abbrev pub item_sites : Known → ItemForm → List Site
item_sites k (sort_form w m) = heading_sites k which.Sorts most_sorts (length k.design.sorts) m
item_sites k (const_form w m s) =
    declared (scope_in k) m
    ∷ (few_const_sites k.design m (sort_meant (k.names s.text))
    ++ used (scope_in (with_const k m s)) a_sort s ∷ [])
item_sites k (relation_form w m ps) =
    heading_sites k which.Relations most_relations (length k.design.relations) m
    ++ place_sites (scope_in (with_relation k m ps)) most_places 0 ps
item_sites k (counter_form w m ps) =
    heading_sites k which.Counters most_counters (length k.design.counters) m
    ++ place_sites (scope_in (with_counter k m ps)) most_keys 0 ps
item_sites k (initially_form w m v) =
    stated k m ∷ used (scope_in k) (need_of_value v) m ∷ value_sites v
item_sites k (token_form w m ps) =
    heading_sites k which.Tokens most_tokens (length k.design.tokens) m
    ++ place_sites (scope_in (with_token k m ps)) most_places 0 ps
item_sites k (conflict_form w p q) =
    one_more which.Conflicts most_rules (length k.design.rules) w
    ∷ (pattern_sites k p q p ++ pattern_sites k p q q)
item_sites k (invariant_form w m s) =
    heading_sites k which.Invariants most_invariants (length k.design.invariants) m
    ++ (exists_sites s.prefix ++ sentence_sites (scope_in (with_heading k m meaning.Invariant)) s)
item_sites k (operation_form w m ps ls) =
    heading_sites k which.Operations most_operations (length k.design.operations) m
    ++ operation_sites (with_heading k m meaning.Operation) m ps ls

-- one more operation
abbrev pub with_operation : Known → Operation → Known
with_operation k o =
    record k { design = record k.design { operations = k.design.operations ++ o ∷ [] } }

-- the operation with all of its lines
abbrev pub with_lines : Known → Mark → List Param → List LineForm → Known
with_lines k m ps ls =
    with_operation k (operation_behind (with_params (scope_in k) ps) (without_lines k m ps) ls)

-- what is known behind one item more, whatever is wrong with it
abbrev pub known_behind : Known → ItemForm → Known
known_behind k (sort_form w m) = with_sort k m
known_behind k (const_form w m s) = with_const k m s
known_behind k (relation_form w m ps) = with_relation k m ps
known_behind k (counter_form w m ps) = with_counter k m ps
known_behind k (initially_form w m v) = with_initial k m v
known_behind k (token_form w m ps) = with_token k m ps
known_behind k (conflict_form w p q) = with_rule k p q
known_behind k (invariant_form w m s) = with_invariant (with_heading k m meaning.Invariant) m s
known_behind k (operation_form w m ps ls) = with_lines (with_heading k m meaning.Operation) m ps ls

-- the items, each with what is known before it
abbrev pub items_sites : Known → List ItemForm → List Site
items_sites k [] = []
items_sites k (i ∷ is) = item_sites k i ++ items_sites (known_behind k i) is

-- what is known after all items
abbrev pub known_behind_all : Known → List ItemForm → Known
known_behind_all k [] = k
known_behind_all k (i ∷ is) = known_behind_all (known_behind k i) is

-- all that stands in a tree
abbrev pub sites_of : TreeForm → List Site
sites_of t = items_sites (nothing_known t.version) t.items

-- what a tree declares
abbrev pub specification_of : TreeForm → Specification
specification_of t = (known_behind_all (nothing_known t.version) t.items).design
