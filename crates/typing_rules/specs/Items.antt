-- The items of a specification, and the specification that a tree is.
use Rattle.std.specs.Prelude.{ℕ, ◌+◌, nat_lt, ◌==◌, count_by, ℤ, pos, Bool, true, false, if◌then◌else◌, List, [], ◌∷◌, ◌++◌, length, map, take, get_or, ◌-◌, ◌&&◌, position, Option, None, Some, is_some, is_none, unwrap_or, Result, Ok, Err, codes}
use Rattle.std.specs.Option.{option_or}
use Rattle.std.specs.Str.{bytes_eq}
use Rattle.parser_combinators.specs.declared.token.Version.{Version}
use Rattle.parser_combinators.specs.declared.token.Version.TheVariants as version
use Rattle.spec_core.specs.declared.spec.Const.{Const}
use Rattle.spec_core.specs.declared.spec.Relation.{Relation}
use Rattle.spec_core.specs.declared.spec.Counter.{Counter}
use Rattle.spec_core.specs.declared.spec.Token.{Token}
use Rattle.spec_core.specs.declared.spec.Pattern.{Pattern}
use Rattle.spec_core.specs.declared.spec.Rule.{Rule}
use Rattle.spec_core.specs.declared.spec.Invariant.{Invariant}
use Rattle.spec_core.specs.declared.operation.Operation.{Operation}
use Rattle.spec_core.specs.Limits.{most_sorts, most_constants, most_relations, most_places, most_counters, most_keys, most_tokens, most_rules, most_invariants, most_operations, most_parameters}
use Rattle.spec_core.specs.Specification.{Specification, token_places}
use Rattle.spec_core.specs.Typed.{is_sort}
use Rattle.spec_trees.specs.declared.tree.Mark.{Mark}
use Rattle.spec_trees.specs.declared.tree.Figure.{Figure}
use Rattle.spec_trees.specs.declared.tree.Reading.{Reading}
use Rattle.spec_trees.specs.declared.tree.Param.{Param}
use Rattle.spec_trees.specs.declared.tree.ParamKind.{ParamKind}
use Rattle.spec_trees.specs.declared.tree.ParamKind.TheVariants as kinds
use Rattle.spec_trees.specs.declared.tree.Quantifier.{Quantifier}
use Rattle.spec_trees.specs.declared.tree.Quantifier.TheVariants as quantifiers
use Rattle.spec_trees.specs.declared.tree.Prefix.{Prefix}
use Rattle.spec_trees.specs.declared.tree.Value.{Value}
use Rattle.spec_trees.specs.declared.tree.Value.TheVariants as values
use Rattle.spec_trees.specs.Form.{Sentence, LineForm, ItemForm, sort_form, const_form, relation_form, counter_form, initially_form, token_form, conflict_form, invariant_form, operation_form, TreeForm}
use Rattle.typing_rules.specs.declared.meaning.Meaning.{Meaning}
use Rattle.typing_rules.specs.declared.meaning.Meaning.TheVariants as meaning
use Rattle.typing_rules.specs.declared.which.Which.{Which}
use Rattle.typing_rules.specs.declared.which.Which.TheVariants as which
use Rattle.typing_rules.specs.Fault.{Fault, kind_fault, ◌otherwise◌, first_fault, unknown_at, twice_at, kind_at, limit_at}
use Rattle.typing_rules.specs.Scope.{Names, no_names, with_name, Scope, stranger_fault, declared_fault, sort_meant, token_meant, sort_fault, sort_number, params_of}
use Rattle.typing_rules.specs.Terms.{small, places_fault, literal_fault, literal_of}
use Rattle.typing_rules.specs.Formulas.{sentence_fault, sentence_of}
use Rattle.typing_rules.specs.Lines.{unless, typed_lines}

-- What is known behind some items: the specification that they are, what their names mean, and the names whose initial value
-- was stated.
pub record Known : Type 0 where
  pub design : Specification
  pub names : Names
  pub stated : Names

-- what is in scope outside an operation
abbrev pub scope_in : Known → Scope
scope_in k = record { design = k.design; names = k.names; params = []; vars = [] }

-- a name is declared, of a kind of which there may be so many
abbrev pub heading_fault : Known → Which → ℕ → ℕ → Mark → Option Fault
heading_fault k which most count m =
    declared_fault (scope_in k) m otherwise limit_at which most count m.word

-- one of the sorts of places or keys, of which there may be so many
abbrev pub place_fault : Scope → List ℕ → ℕ → ℕ → Mark → Option Fault
place_fault sc own most n m = sort_fault sc own m otherwise limit_at which.Places most n m.word

-- the sorts of places or keys, in their order
abbrev pub sorts_fault : Scope → List ℕ → ℕ → List Mark → Option Fault
sorts_fault sc own most ms = first_fault (place_fault sc own most) 0 ms

-- the sorts that names are
abbrev pub sort_numbers : Names → List Mark → List ℕ
sort_numbers names ms = map (sort_number names) ms

-- ---- sorts, constants, relations, counters and tokens

-- what is wrong with the declaration of a sort
abbrev pub sort_item_fault : Known → Mark → Option Fault
sort_item_fault k m = heading_fault k which.Sorts most_sorts (length k.design.sorts) m

-- one more sort
abbrev pub with_sort : Known → Mark → Known
with_sort k m = record k {
  design = record k.design { sorts = k.design.sorts ++ m.text ∷ [] };
  names = with_name k.names m.text (meaning.Sort (length k.design.sorts));
}

-- few constants of one sort
abbrev pub few_consts_fault : Specification → Mark → Option ℕ → Option Fault
few_consts_fault d m None = None
few_consts_fault d m (Some s) =
    limit_at which.Constants most_constants (count_by (λ c. c.sort == s) d.consts) m.word

-- what is wrong with the declaration of a constant
abbrev pub const_fault : Known → Mark → Mark → Option Fault
const_fault k m s =
    declared_fault (scope_in k) m otherwise few_consts_fault k.design m
    (sort_meant (k.names s.text)) otherwise sort_fault (scope_in k) m.text s

-- a place as a byte numbers it: a specification has far fewer constants
abbrev pub place_number : ℕ → ℕ
place_number n = if nat_lt n 256 then n else 0

-- the constant that is declared
abbrev pub const_of : Known → Mark → Mark → Const
const_of k m s = record { name = m.text; sort = sort_number k.names s }

-- one more constant
abbrev pub with_const : Known → Mark → Mark → Known
with_const k m s = record k {
  design = record k.design { consts = k.design.consts ++ const_of k m s ∷ [] };
  names = with_name k.names m.text (meaning.Const (place_number (length k.design.consts)));
}

-- what is wrong with the declaration of a relation
abbrev pub relation_fault : Known → Mark → List Mark → Option Fault
relation_fault k m ps =
    heading_fault k which.Relations most_relations
    (length k.design.relations) m otherwise sorts_fault
    (scope_in k) m.text most_places ps

-- the relation that is declared, which is false until its initial value is stated
abbrev pub relation_of : Known → Mark → List Mark → Relation
relation_of k m ps = record { name = m.text; places = sort_numbers k.names ps; initial = false }

-- one more relation
abbrev pub with_relation : Known → Mark → List Mark → Known
with_relation k m ps = record k {
  design = record k.design { relations = k.design.relations ++ relation_of k m ps ∷ [] };
  names = with_name k.names m.text (meaning.Relation (length k.design.relations));
}

-- what is wrong with the declaration of a counter
abbrev pub counter_fault : Known → Mark → List Mark → Option Fault
counter_fault k m ps =
    heading_fault k which.Counters most_counters (length k.design.counters) m otherwise sorts_fault
    (scope_in k) m.text most_keys ps

-- the counter that is declared, which is 0 until its initial value is stated
abbrev pub counter_of : Known → Mark → List Mark → Counter
counter_of k m ps = record { name = m.text; keys = sort_numbers k.names ps; initial = pos 0 }

-- one more counter
abbrev pub with_counter : Known → Mark → List Mark → Known
with_counter k m ps = record k {
  design = record k.design { counters = k.design.counters ++ counter_of k m ps ∷ [] };
  names = with_name k.names m.text (meaning.Counter (length k.design.counters));
}

-- what is wrong with the declaration of a token
abbrev pub token_fault : Known → Mark → List Mark → Option Fault
token_fault k m ps =
    heading_fault k which.Tokens most_tokens (length k.design.tokens) m otherwise sorts_fault
    (scope_in k) m.text most_places ps

-- the token that is declared
abbrev pub token_of : Known → Mark → List Mark → Token
token_of k m ps = record { name = m.text; places = sort_numbers k.names ps }

-- one more token
abbrev pub with_token : Known → Mark → List Mark → Known
with_token k m ps = record k {
  design = record k.design { tokens = k.design.tokens ++ token_of k m ps ∷ [] };
  names = with_name k.names m.text (meaning.Token (length k.design.tokens));
}

-- ---- initial values

-- a relation is initially true or false, a counter has a number
abbrev pub value_fault : Mark → Option Meaning → Value → Option Fault
value_fault m (Some (meaning.Relation k)) values.True = None
value_fault m (Some (meaning.Relation k)) values.False = None
value_fault m (Some (meaning.Counter k)) (values.Number minus f) = literal_fault f
value_fault m (Some _) v = kind_at m
value_fault m None v = unknown_at m

-- a second statement for one name is refused whatever its value
abbrev pub initially_fault : Known → Mark → Value → Option Fault
initially_fault k m v =
    if is_some (k.stated m.text) then twice_at m else value_fault m (k.names m.text) v

-- the initial value of a relation; what is no truth value stands for false, and is refused
abbrev pub truth_of : Value → Bool
truth_of values.True = true
truth_of values.False = false
truth_of (values.Number minus f) = false

-- the initial value of a counter; what is no number stands for 0, and is refused
abbrev pub number_of : Value → ℤ
number_of values.True = pos 0
number_of values.False = pos 0
number_of (values.Number minus f) = literal_of minus f

-- the relation at a place has this initial value
abbrev pub initial_truth : List Relation → ℕ → Bool → List Relation
initial_truth [] n b = []
initial_truth (r ∷ rs) n b =
    if n == 0 then record r { initial = b } ∷ rs else r ∷ initial_truth rs (n - 1) b

-- the counter at a place has this initial value
abbrev pub initial_number : List Counter → ℕ → ℤ → List Counter
initial_number [] n v = []
initial_number (c ∷ cs) n v =
    if n == 0 then record c { initial = v } ∷ cs else c ∷ initial_number cs (n - 1) v

-- the specification in which the thing of this meaning has this initial value
abbrev pub initial_design : Specification → Option Meaning → Value → Specification
initial_design d (Some (meaning.Relation n)) v =
    record d { relations = initial_truth d.relations n (truth_of v) }
initial_design d (Some (meaning.Counter n)) v =
    record d { counters = initial_number d.counters n (number_of v) }
initial_design d _ v = d

-- one more initial value
abbrev pub with_initial : Known → Mark → Value → Known
with_initial k m v =
    record k {
      design = initial_design k.design (k.names m.text) v;
      stated = with_name k.stated m.text meaning.Invariant;
    }

-- ---- conflict rules

-- the sort of the first place at which a variable stands in a pattern
abbrev pub first_sort : List ℕ → List ℕ → List Mark → Option ℕ
first_sort name (s ∷ ss) (m ∷ ms) = if bytes_eq m.text name then Some s else first_sort name ss ms
first_sort name ss ms = None

-- the sorts of a pattern's places
abbrev pub pattern_places : Known → Reading → List ℕ
pattern_places k p = token_places k.design (unwrap_or (token_meant (k.names p.name.text)) 0)

-- the sort of the first place at which a variable stands in a rule
abbrev pub rule_sort : Known → Reading → Reading → List ℕ → Option ℕ
rule_sort k p q name =
    option_or (first_sort name (pattern_places k p) p.args)
    (first_sort name (pattern_places k q) q.args)

-- A rule variable stands at places of one sort alone. It isn't declared: a name of the whole specification is none.
abbrev pub rule_variable_fault : Known → Reading → Reading → ℕ → Mark → Option Fault
rule_variable_fault k p q s m =
    if is_none (k.names m.text) && is_sort (rule_sort k p q m.text) s then None else kind_at m

-- the variables at places of these sorts
abbrev pub rule_variables_fault : Known → Reading → Reading → List ℕ → List Mark → Option Fault
rule_variables_fault k p q (s ∷ ss) (m ∷ ms) =
    rule_variable_fault k p q s m otherwise rule_variables_fault k p q ss ms
rule_variables_fault k p q ss ms = None

-- the same, where it is known which token the name is
abbrev pub pattern_fault_at : Known → Reading → Reading → Reading → Option ℕ → Option Fault
pattern_fault_at k p q r (Some t) =
    places_fault r.name (token_places k.design t)
    (length r.args) otherwise rule_variables_fault k p q
    (token_places k.design t) r.args
pattern_fault_at k p q r None = stranger_fault (scope_in k) r.name

-- one of the two patterns of a rule is a token with its variables
abbrev pub pattern_fault : Known → Reading → Reading → Reading → Option Fault
pattern_fault k p q r = pattern_fault_at k p q r (token_meant (k.names r.name.text))

-- what is wrong with a conflict rule
abbrev pub conflict_fault : Known → ℕ → Reading → Reading → Option Fault
conflict_fault k w p q =
    limit_at which.Conflicts most_rules (length k.design.rules) w
    otherwise pattern_fault k p q p
    otherwise pattern_fault k p q q

-- a variable is numbered by the first place at which it stands in the rule
abbrev pub variable_number : Reading → Reading → Mark → ℕ
variable_number p q m =
    unwrap_or (small (position (λ o. bytes_eq o.text m.text) (p.args ++ q.args))) 0

-- a pattern, with its variables by their numbers
abbrev pub pattern_of : Known → Reading → Reading → Reading → Pattern
pattern_of k p q r = record {
  token = unwrap_or (token_meant (k.names r.name.text)) 0;
  vars = map (variable_number p q) r.args;
}

-- the rule of its two patterns
abbrev pub rule_of : Known → Reading → Reading → Rule
rule_of k p q = record { left = pattern_of k p q p; right = pattern_of k p q q }

-- one more rule
abbrev pub with_rule : Known → Reading → Reading → Known
with_rule k p q =
    record k { design = record k.design { rules = k.design.rules ++ rule_of k p q ∷ [] } }

-- ---- invariants

-- the name of an invariant or an operation, which is in scope in it
abbrev pub with_heading : Known → Mark → Meaning → Known
with_heading k m x = record k { names = with_name k.names m.text x }

-- an invariant is no `exists`
abbrev pub some_fault : ℕ → Quantifier → Option Fault
some_fault w quantifiers.Forall = None
some_fault w quantifiers.Exists = Some (kind_fault (codes "exists") w)

-- an invariant's prefix is `forall` or missing
abbrev pub exists_fault : Option Prefix → Option Fault
exists_fault None = None
exists_fault (Some p) = some_fault p.word p.quantifier

-- what is wrong with the formula of an invariant
abbrev pub claim_fault : Known → Sentence → Option Fault
claim_fault k s = exists_fault s.prefix otherwise sentence_fault (scope_in k) s

-- the invariant that is stated
abbrev pub invariant_of : Known → Mark → Sentence → Invariant
invariant_of k m s = record { name = m.text; line = sentence_of (scope_in k) s }

-- one more invariant
abbrev pub with_invariant : Known → Mark → Sentence → Known
with_invariant k m s =
    record k {
      design = record k.design {
        invariants = k.design.invariants
            ++ invariant_of k m s ∷ [];
      };
    }

-- one more invariant, or what is wrong with it
abbrev pub typed_invariant : Known → Mark → Sentence → Result Known Fault
typed_invariant k m s = unless (claim_fault k s) (Ok (with_invariant k m s))

-- ---- operations

-- the scope with these parameters
abbrev pub with_params : Scope → List Param → Scope
with_params sc ps = record sc { params = ps }

-- what is wrong with the kind of a parameter
abbrev pub param_kind_fault : Scope → List ℕ → ParamKind → Option Fault
param_kind_fault sc own (kinds.Sort m) = sort_fault sc own m
param_kind_fault sc own kinds.Int = None

-- a parameter, where those before it are in scope
abbrev pub param_fault : Scope → ℕ → Param → Option Fault
param_fault sc n p =
    declared_fault sc p.name
    otherwise limit_at which.Parameters most_parameters n p.name.word
    otherwise param_kind_fault sc p.name.text p.kind

-- what is wrong with some parameters, in their order
abbrev pub params_fault : Scope → List Param → Option Fault
params_fault sc ps = first_fault (λ n p. param_fault (with_params sc (take n ps)) n p) 0 ps

-- the operation of this name and these parameters, before its first line
abbrev pub without_lines : Known → Mark → List Param → Operation
without_lines k m ps = record {
  name = m.text;
  params = params_of k.names ps;
  requires_ = [];
  updates = [];
  takes = [];
  observes = [];
}

-- one more operation, or what is wrong with it
abbrev pub with_operation : Known → Result Operation Fault → Result Known Fault
with_operation k (Ok o) =
    Ok (record k { design = record k.design { operations = k.design.operations ++ o ∷ [] } })
with_operation k (Err f) = Err f

-- An operation: its parameters, and then its lines.
abbrev pub typed_operation : Known → Mark → List Param → List LineForm → Result Known Fault
typed_operation k m ps ls =
    unless (params_fault (scope_in k) ps)
    (with_operation k (typed_lines (with_params (scope_in k) ps) (without_lines k m ps) ls))

-- ---- the whole

-- what is known behind an item, or its first fault
abbrev pub typed_item : Known → ItemForm → Result Known Fault
typed_item k (sort_form w m) = unless (sort_item_fault k m) (Ok (with_sort k m))
typed_item k (const_form w m s) = unless (const_fault k m s) (Ok (with_const k m s))
typed_item k (relation_form w m ps) = unless (relation_fault k m ps) (Ok (with_relation k m ps))
typed_item k (counter_form w m ps) = unless (counter_fault k m ps) (Ok (with_counter k m ps))
typed_item k (initially_form w m v) = unless (initially_fault k m v) (Ok (with_initial k m v))
typed_item k (token_form w m ps) = unless (token_fault k m ps) (Ok (with_token k m ps))
typed_item k (conflict_form w p q) = unless (conflict_fault k w p q) (Ok (with_rule k p q))
typed_item k (invariant_form w m s) =
    unless (heading_fault k which.Invariants most_invariants (length k.design.invariants) m)
    (typed_invariant (with_heading k m meaning.Invariant) m s)
typed_item k (operation_form w m ps ls) =
    unless (heading_fault k which.Operations most_operations (length k.design.operations) m)
    (typed_operation (with_heading k m meaning.Operation) m ps ls)

-- the rest of the items, unless one has a fault
abbrev pub going_on : Result Known Fault → (Known → Result Specification Fault)
    → Result Specification Fault
going_on (Ok k) more = more k
going_on (Err f) more = Err f

-- The items are taken in their order, as names come in scope. The first that has a fault ends it: in a tree that is read, its
-- words come before those of later items.
abbrev pub typed_items : Known → List ItemForm → Result Specification Fault
typed_items k [] = Ok k.design
typed_items k (i ∷ is) = going_on (typed_item k i) (λ j. typed_items j is)

-- the number of a version
abbrev pub version_number : Version → ℕ
version_number version.First = 1
version_number version.Second = 2

-- nothing is declared
abbrev pub nothing_known : Version → Known
nothing_known v = record {
  design = record {
    version = version_number v;
    sorts = [];
    consts = [];
    relations = [];
    counters = [];
    tokens = [];
    rules = [];
    invariants = [];
    operations = [];
  };
  names = no_names;
  stated = no_names;
}

-- The specification that a tree is, or the first thing that is wrong with it.
abbrev pub typing : TreeForm → Result Specification Fault
typing t = typed_items (nothing_known t.version) t.items
