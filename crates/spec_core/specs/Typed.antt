-- Which specifications are well formed.
use Rattle.std.specs.Prelude.{if◌then◌else◌, ℕ, ◌+◌, nat_lt, nat_le, max, count_by, Bool, true, false, not, ◌&&◌, ◌||◌, ◌==◌, List, [], ◌∷◌, ◌++◌, length, map, Option, None, Some, option_map, slice_get}
use Rattle.std.specs.List.{list_all, zip}
use Rattle.spec_core.specs.declared.formula.Elem.{Elem}
use Rattle.spec_core.specs.declared.formula.Elem.TheVariants.{Const, Param, Var}
use Rattle.spec_core.specs.declared.formula.Body.{Body}
use Rattle.spec_core.specs.declared.formula.Body.TheVariants as body
use Rattle.spec_core.specs.declared.formula.Summand.{Summand}
use Rattle.spec_core.specs.declared.formula.Term.{Term}
use Rattle.spec_core.specs.declared.operation.Kind.{Kind}
use Rattle.spec_core.specs.declared.operation.Kind.TheVariants.{Sort, Int}
use Rattle.spec_core.specs.declared.operation.Param.{Param as Parameter}
use Rattle.spec_core.specs.declared.operation.Take.{Take}
use Rattle.spec_core.specs.declared.operation.Operation.{Operation}
use Rattle.spec_core.specs.declared.update.Thing.{Thing}
use Rattle.spec_core.specs.declared.update.Thing.TheVariants as thing
use Rattle.spec_core.specs.declared.update.Spot.{Spot}
use Rattle.spec_core.specs.declared.update.Spot.TheVariants.{Every, One}
use Rattle.spec_core.specs.declared.update.Change.{Change}
use Rattle.spec_core.specs.declared.update.Change.TheVariants.{Insert, Remove, Add, Set}
use Rattle.spec_core.specs.declared.spec.Relation.{Relation}
use Rattle.spec_core.specs.declared.spec.Counter.{Counter}
use Rattle.spec_core.specs.declared.spec.Token.{Token}
use Rattle.spec_core.specs.declared.spec.Pattern.{Pattern}
use Rattle.spec_core.specs.declared.spec.Rule.{Rule}
use Rattle.spec_core.specs.declared.spec.Invariant.{Invariant}
use Rattle.spec_core.specs.Limits.{most_sorts, most_constants, most_relations, most_places, most_counters, most_keys, most_tokens, most_rules, most_invariants, most_operations, most_parameters, most_requires, most_updates, most_takes, most_observes, most_variables, most_summands, most_nodes, most_depth}
use Rattle.spec_core.specs.Name.{is_word_name}
use Rattle.spec_core.specs.Form.{Form, true_form, false_form, not_form, and_form, or_form, implies_form, has_form, same_form, differ_form, compare_form}
use Rattle.spec_core.specs.Line.{Line}
use Rattle.spec_core.specs.UpdateLine.{UpdateLine}
use Rattle.spec_core.specs.Specification.{Specification, relation_places, counter_keys, token_places, places_of}
use Rattle.spec_core.specs.State.{is_in}
use Rattle.spec_core.specs.World.{below}
use Rattle.spec_core.specs.Truth.{is_exists}
use Rattle.spec_core.specs.Fits.{in_literal_range, is_plain}

-- ---- sorts

-- the sort of the elements that an argument of this kind is
abbrev pub sort_of_kind : Kind → Option ℕ
sort_of_kind (Sort s) = Some s
sort_of_kind Int = None

-- none where there is no such parameter or it is a number
abbrev pub sort_of_param : Option Parameter → Option ℕ
sort_of_param None = None
sort_of_param (Some p) = sort_of_kind p.kind

-- The sort of what stands for an element, among these parameters and variables; none where it doesn't exist or is a number.
abbrev pub sort_of : Specification → List Parameter → List ℕ → Elem → Option ℕ
sort_of d params vars (Const n) = option_map (λ c. c.sort) (slice_get d.consts n)
sort_of d params vars (Param n) = sort_of_param (slice_get params n)
sort_of d params vars (Var n) = slice_get vars n

-- whether there is a sort, and it is this one
abbrev pub is_sort : Option ℕ → ℕ → Bool
is_sort None s = false
is_sort (Some t) s = t == s

-- whether both are there and are one sort
abbrev pub same_sort : Option ℕ → Option ℕ → Bool
same_sort None o = false
same_sort (Some s) o = is_sort o s

-- what stands at each place is of its sort
abbrev pub elems_typed : Specification → List Parameter → List ℕ → List ℕ → List Elem → Bool
elems_typed d params vars [] [] = true
elems_typed d params vars [] (e ∷ es) = false
elems_typed d params vars (s ∷ ss) [] = false
elems_typed d params vars (s ∷ ss) (e ∷ es) =
    is_sort (sort_of d params vars e) s && elems_typed d params vars ss es

-- ---- terms and formulas

-- a whole number, and no element of a sort
abbrev pub is_int : Kind → Bool
is_int (Sort s) = false
is_int Int = true

-- a parameter that is a whole number
abbrev pub is_number : Option Parameter → Bool
is_number None = false
is_number (Some p) = is_int p.kind

-- the parameter is a number, or the counter exists and its keys are of their sorts
abbrev pub body_typed : Specification → List Parameter → List ℕ → Body → Bool
body_typed d params vars body.One = true
body_typed d params vars (body.Param n) = is_number (slice_get params n)
body_typed d params vars (body.Count k es) =
    nat_lt k (length d.counters) && elems_typed d params vars (counter_keys d k) es

-- a coefficient in range, and a typed body
abbrev pub summand_typed : Specification → List Parameter → List ℕ → Summand → Bool
summand_typed d params vars s = in_literal_range s.coef && body_typed d params vars s.body

-- few summands, each typed
abbrev pub term_typed : Specification → List Parameter → List ℕ → Term → Bool
term_typed d params vars t =
    nat_le (length t.summands) most_summands && list_all (summand_typed d params vars) t.summands

-- what a formula names exists, and what stands at each place is of its sort; compared elements are of one sort
abbrev pub form_typed : Specification → List Parameter → List ℕ → Form → Bool
form_typed d params vars true_form = true
form_typed d params vars false_form = true
form_typed d params vars (not_form f) = form_typed d params vars f
form_typed d params vars (and_form f g) = form_typed d params vars f && form_typed d params vars g
form_typed d params vars (or_form f g) = form_typed d params vars f && form_typed d params vars g
form_typed d params vars (implies_form f g) =
    form_typed d params vars f && form_typed d params vars g
form_typed d params vars (has_form k es) =
    nat_lt k (length d.relations) && elems_typed d params vars (relation_places d k) es
form_typed d params vars (same_form a b) =
    same_sort (sort_of d params vars a) (sort_of d params vars b)
form_typed d params vars (differ_form a b) =
    same_sort (sort_of d params vars a) (sort_of d params vars b)
form_typed d params vars (compare_form t c u) =
    term_typed d params vars t && term_typed d params vars u

-- how many parts a formula has: truth values, connectives, readings and comparisons
abbrev pub nodes : Form → ℕ
nodes true_form = 1
nodes false_form = 1
nodes (not_form f) = 1 + nodes f
nodes (and_form f g) = 1 + (nodes f + nodes g)
nodes (or_form f g) = 1 + (nodes f + nodes g)
nodes (implies_form f g) = 1 + (nodes f + nodes g)
nodes (has_form k es) = 1
nodes (same_form a b) = 1
nodes (differ_form a b) = 1
nodes (compare_form t c u) = 1

-- how deep they nest
abbrev pub depth : Form → ℕ
depth true_form = 1
depth false_form = 1
depth (not_form f) = 1 + depth f
depth (and_form f g) = 1 + max (depth f) (depth g)
depth (or_form f g) = 1 + max (depth f) (depth g)
depth (implies_form f g) = 1 + max (depth f) (depth g)
depth (has_form k es) = 1
depth (same_form a b) = 1
depth (differ_form a b) = 1
depth (compare_form t c u) = 1

-- a formula with few parts that doesn't nest too deep
abbrev pub is_formula : Specification → List Parameter → List ℕ → Form → Bool
is_formula d params vars f =
    nat_le (nodes f) most_nodes && nat_le (depth f) most_depth && form_typed d params vars f

-- sorts that exist, at most so many
abbrev pub are_sorts : Specification → ℕ → List ℕ → Bool
are_sorts d most ss = nat_le (length ss) most && list_all (λ s. nat_lt s (length d.sorts)) ss

-- a line with few variables, and none where it is plain
abbrev pub is_line : Specification → List Parameter → Line → Bool
is_line d params l =
    are_sorts d (if is_plain l.prefix then 0 else most_variables) l.vars
    && is_formula d params l.vars l.body

-- ---- operations

-- a sort that exists, or a number
abbrev pub is_kind : Specification → Kind → Bool
is_kind d (Sort s) = nat_lt s (length d.sorts)
is_kind d Int = true

-- a parameter of a sort that exists or a number, whose name is a word
abbrev pub is_parameter : Specification → Parameter → Bool
is_parameter d p = is_kind d p.kind && is_word_name p.name

-- the names of parameters, in their order
abbrev pub parameter_names : List Parameter → List (List ℕ)
parameter_names ps = map (λ p. p.name) ps

-- no name stands twice
abbrev pub all_distinct : List (List ℕ) → Bool
all_distinct [] = true
all_distinct (n ∷ ns) = not (is_in n ns) && all_distinct ns

-- a spot is every element of its place, or one of the place's sort
abbrev pub spot_typed : Specification → List Parameter → ℕ → Spot → Bool
spot_typed d params s Every = true
spot_typed d params s (One e) = is_sort (sort_of d params [] e) s

-- one spot for each place, and each is typed
abbrev pub spots_typed : Specification → List Parameter → List ℕ → List Spot → Bool
spots_typed d params [] [] = true
spots_typed d params [] (x ∷ xs) = false
spots_typed d params (s ∷ ss) [] = false
spots_typed d params (s ∷ ss) (x ∷ xs) = spot_typed d params s x && spots_typed d params ss xs

-- relations are inserted into and removed from, counters added to and set
abbrev pub change_typed : Specification → List Parameter → Thing → Change → Bool
change_typed d params (thing.Relation k) Insert = nat_lt k (length d.relations)
change_typed d params (thing.Relation k) Remove = nat_lt k (length d.relations)
change_typed d params (thing.Relation k) (Add t) = false
change_typed d params (thing.Relation k) (Set t) = false
change_typed d params (thing.Counter k) Insert = false
change_typed d params (thing.Counter k) Remove = false
change_typed d params (thing.Counter k) (Add t) =
    nat_lt k (length d.counters) && term_typed d params [] t
change_typed d params (thing.Counter k) (Set t) =
    nat_lt k (length d.counters) && term_typed d params [] t

-- a change, spots and a guard that are typed
abbrev pub is_update : Specification → List Parameter → UpdateLine → Bool
is_update d params u =
    change_typed d params u.thing u.change && spots_typed d params (places_of d u.thing) u.at
    && is_formula d params [] u.guard

-- a taking of a token, shared in language version 2 alone
abbrev pub is_take : Specification → List Parameter → Take → Bool
is_take d params t =
    nat_lt t.token (length d.tokens) && elems_typed d params [] (token_places d t.token) t.args
    && (not t.shared || (d.version == 2))

-- parameters with distinct names, requires lines, updates, takings and, in version 2 alone, observes lines, within the limits
abbrev pub is_operation : Specification → Operation → Bool
is_operation d o =
    nat_le (length o.params) most_parameters && list_all (is_parameter d) o.params
    && all_distinct (parameter_names o.params)
    && nat_le (length o.requires_) most_requires && list_all (is_line d o.params) o.requires_
    && nat_le (length o.updates) most_updates && list_all (is_update d o.params) o.updates
    && nat_le (length o.takes) most_takes && list_all (is_take d o.params) o.takes
    && nat_le (length o.observes) (if d.version == 2 then most_observes else 0)
    && list_all (is_line d o.params) o.observes

-- ---- the other parts

-- few places, of sorts that exist
abbrev pub is_relation : Specification → Relation → Bool
is_relation d r = are_sorts d most_places r.places

-- few keys, of sorts that exist, and a literal to begin with
abbrev pub is_counter : Specification → Counter → Bool
is_counter d c = are_sorts d most_keys c.keys && in_literal_range c.initial

-- few places, of sorts that exist
abbrev pub is_token : Specification → Token → Bool
is_token d t = are_sorts d most_places t.places

-- a token that exists, and a variable for each of its places
abbrev pub is_pattern : Specification → Pattern → Bool
is_pattern d p =
    nat_lt p.token (length d.tokens) && (length p.vars == length (token_places d p.token))

-- a variable stands at places of one sort alone
abbrev pub agree_on : List (ℕ × ℕ) → ℕ × ℕ → Bool
agree_on xs x = list_all (λ y. not (x.0 == y.0) || (x.1 == y.1)) xs

-- the variables of a rule, each with the sort of its place
abbrev pub sorts_of_vars : Specification → Rule → List (ℕ × ℕ)
sorts_of_vars d r =
    zip r.left.vars (token_places d r.left.token) ++ zip r.right.vars (token_places d r.right.token)

-- two patterns, in which no variable stands at places of two sorts
abbrev pub is_rule : Specification → Rule → Bool
is_rule d r = is_pattern d r.left && is_pattern d r.right
    && list_all (agree_on (sorts_of_vars d r)) (sorts_of_vars d r)

-- an invariant's prefix is `forall` or missing
abbrev pub is_invariant : Specification → Invariant → Bool
is_invariant d i = not (is_exists i.line.prefix) && is_line d [] i.line

-- the names of invariants and operations
abbrev pub names_from_invariants : Specification → List (List ℕ)
names_from_invariants d = map (λ i. i.name) d.invariants ++ map (λ o. o.name) d.operations

-- the names of tokens, invariants and operations
abbrev pub names_from_tokens : Specification → List (List ℕ)
names_from_tokens d = map (λ t. t.name) d.tokens ++ names_from_invariants d

-- the names of counters, and of all kinds that come after them
abbrev pub names_from_counters : Specification → List (List ℕ)
names_from_counters d = map (λ c. c.name) d.counters ++ names_from_tokens d

-- the names of relations, and of all kinds that come after them
abbrev pub names_from_relations : Specification → List (List ℕ)
names_from_relations d = map (λ r. r.name) d.relations ++ names_from_counters d

-- the names of constants, and of all kinds that come after them
abbrev pub names_from_consts : Specification → List (List ℕ)
names_from_consts d = map (λ c. c.name) d.consts ++ names_from_relations d

-- all names that are declared for the whole specification
abbrev pub global_names : Specification → List (List ℕ)
global_names d = d.sorts ++ names_from_consts d

-- constants of sorts that exist, few of each
abbrev pub consts_typed : Specification → Bool
consts_typed d = list_all (λ c. nat_lt c.sort (length d.sorts)) d.consts
    && list_all (λ s. nat_le (count_by (λ c. c.sort == s) d.consts) most_constants)
    (below (length d.sorts))

-- A specification is well formed: all that it names exists and is of the sort that its place needs, its names are words and
-- distinct, and it is within the limits of the language.
abbrev pub is_specification : Specification → Bool
is_specification d =
    ((d.version == 1) || (d.version == 2))
    && nat_le (length d.sorts) most_sorts && consts_typed d
    && nat_le (length d.relations) most_relations && list_all (is_relation d) d.relations
    && nat_le (length d.counters) most_counters && list_all (is_counter d) d.counters
    && nat_le (length d.tokens) most_tokens && list_all (is_token d) d.tokens
    && nat_le (length d.rules) most_rules && list_all (is_rule d) d.rules
    && nat_le (length d.invariants) most_invariants && list_all (is_invariant d) d.invariants
    && nat_le (length d.operations) most_operations && list_all (is_operation d) d.operations
    && list_all is_word_name (global_names d) && all_distinct (global_names d)
