-- Which worlds, calls and states fit a specification, and which arguments and variables fit a formula, a line, an update and a taking.
use Rattle.std.specs.Prelude.{◌≡◌, if◌then◌else◌, ℕ, ◌<◌, ◌≤◌, ℤ, pos, int_le, nat_lt, nat_le, unsigned_abs, Bool, true, false, ◌&&◌, ◌==◌, List, [], ◌∷◌, length, map}
use Rattle.std.specs.List.{list_all}
use Rattle.spec_core.specs.declared.formula.Elem.{Elem}
use Rattle.spec_core.specs.declared.formula.Elem.TheVariants.{Const, Param, Var}
use Rattle.spec_core.specs.declared.formula.Body.{Body}
use Rattle.spec_core.specs.declared.formula.Body.TheVariants as body
use Rattle.spec_core.specs.declared.formula.Summand.{Summand}
use Rattle.spec_core.specs.declared.formula.Term.{Term}
use Rattle.spec_core.specs.declared.line.Prefix.{Prefix}
use Rattle.spec_core.specs.declared.line.Prefix.TheVariants.{Plain, Forall, Exists}
use Rattle.spec_core.specs.declared.operation.Kind.{Kind}
use Rattle.spec_core.specs.declared.operation.Kind.TheVariants.{Sort, Int}
use Rattle.spec_core.specs.declared.operation.Param.{Param as Parameter}
use Rattle.spec_core.specs.declared.operation.Take.{Take}
use Rattle.spec_core.specs.declared.operation.Operation.{Operation}
use Rattle.spec_core.specs.declared.update.Thing.{Thing}
use Rattle.spec_core.specs.declared.update.Thing.TheVariants as thing
use Rattle.spec_core.specs.declared.update.Spot.{Spot}
use Rattle.spec_core.specs.declared.update.Spot.TheVariants.{Every, One}
use Rattle.spec_core.specs.declared.update.Change.{Change}
use Rattle.spec_core.specs.declared.update.Change.TheVariants.{Insert, Remove, Add, Set}
use Rattle.spec_core.specs.declared.spec.Relation.{Relation}
use Rattle.spec_core.specs.declared.spec.Counter.{Counter}
use Rattle.spec_core.specs.declared.world.World.{World}
use Rattle.spec_core.specs.declared.world.Call.{Call}
use Rattle.spec_core.specs.Limits.{greatest_value, greatest_literal, most_elements, most_summands, most_variables, most_requires, most_observes, most_updates, most_takes}
use Rattle.spec_core.specs.Form.{Form, true_form, false_form, not_form, and_form, or_form, implies_form, has_form, same_form, differ_form, compare_form}
use Rattle.spec_core.specs.Line.{Line}
use Rattle.spec_core.specs.UpdateLine.{UpdateLine}
use Rattle.spec_core.specs.Specification.{Specification, relation_places, counter_keys, token_places, places_of, op_of}
use Rattle.spec_core.specs.State.{Listing, Reads, listed_keys, is_rising}
use Rattle.spec_core.specs.World.{size_of, tuples}
use Rattle.spec_core.specs.Truth.{elem_of, elems_of}

-- ---- worlds, calls and states of a specification

-- elements of these sorts, one for each
abbrev pub fits_places : World → List ℕ → List ℕ → Bool
fits_places w [] [] = true
fits_places w [] (e ∷ es) = false
fits_places w (s ∷ ss) [] = false
fits_places w (s ∷ ss) (e ∷ es) = nat_lt e (size_of w s) && fits_places w ss es

-- A world gives each sort a size, and each constant an element of its sort.
abbrev pub is_world : Specification → World → Bool
is_world d w =
    (length w.sizes == length d.sorts) && fits_places w (map (λ c. c.sort) d.consts) w.consts

-- an element of the sort, or any whole number
abbrev pub is_argument : World → Kind → ℤ → Bool
is_argument w (Sort s) n = int_le (pos 0) n && nat_lt (unsigned_abs n) (size_of w s)
is_argument w Int n = true

-- an argument for each parameter
abbrev pub are_arguments : World → List Parameter → List ℤ → Bool
are_arguments w [] [] = true
are_arguments w [] (n ∷ ns) = false
are_arguments w (p ∷ ps) [] = false
are_arguments w (p ∷ ps) (n ∷ ns) = is_argument w p.kind n && are_arguments w ps ns

-- A call names an operation, and has an argument for each parameter.
abbrev pub is_call : Specification → World → Call → Bool
is_call d w c = nat_lt c.op (length d.operations) && are_arguments w (op_of d c.op).params c.args

-- for each relation a list, of tuples that hold elements of its places
abbrev pub lists_fit : World → List Relation → List (List (List ℕ)) → Bool
lists_fit w [] [] = true
lists_fit w [] (l ∷ ls) = false
lists_fit w (r ∷ rs) [] = false
lists_fit w (r ∷ rs) (l ∷ ls) =
    list_all (λ tuple. fits_places w r.places tuple) l && lists_fit w rs ls

-- for each counter a list, of keys that hold elements of its sorts
abbrev pub values_fit : World → List Counter → List (List (List ℕ × ℤ)) → Bool
values_fit w [] [] = true
values_fit w [] (l ∷ ls) = false
values_fit w (c ∷ cs) [] = false
values_fit w (c ∷ cs) (l ∷ ls) = list_all (λ e. fits_places w c.keys e.0) l && values_fit w cs ls

-- A state has one list for each relation and each counter, of tuples and keys that hold elements of the world.
abbrev pub is_state : Specification → World → Listing → Bool
is_state d w s = lists_fit w d.relations s.relations && values_fit w d.counters s.counters

-- ---- the bounds that the calls have

-- the range of a state: -10^15 to 10^15
abbrev pub in_state_range : ℤ → Bool
in_state_range n = nat_le (unsigned_abs n) greatest_value

-- keys in rising order, with values in the range of a state
abbrev pub is_counts : List (List ℕ × ℤ) → Bool
is_counts es = is_rising (listed_keys es) && list_all (λ (e : List ℕ × ℤ). in_state_range e.1) es

-- a state as a program holds it
abbrev pub is_listing : Listing → Bool
is_listing s = list_all is_rising s.relations && list_all is_counts s.counters

-- a world whose sorts have at most 100 elements
abbrev pub world_fits : Specification → World → Bool
world_fits d w = is_world d w && list_all (λ n. nat_le n most_elements) w.sizes

-- a call whose whole numbers are in the range of a state
abbrev pub call_fits : Specification → World → Call → Bool
call_fits d w c = is_call d w c && list_all in_state_range c.args

-- ---- formulas at arguments and variables

-- literals and coefficients
abbrev pub in_literal_range : ℤ → Bool
in_literal_range n = nat_le (unsigned_abs n) greatest_literal

-- the constant, argument or variable exists
abbrev pub elem_exists : World → List ℤ → List ℕ → Elem → Bool
elem_exists w args vars (Const n) = nat_lt n (length w.consts)
elem_exists w args vars (Param n) = nat_lt n (length args)
elem_exists w args vars (Var n) = nat_lt n (length vars)

-- what stands at the places exists, and is an element of their sorts
abbrev pub elems_fit : World → List ℤ → List ℕ → List ℕ → List Elem → Bool
elems_fit w args vars places es =
    list_all (elem_exists w args vars) es && fits_places w places (elems_of w args vars es)

-- the argument exists, or the counter does and its keys fit
abbrev pub body_fits : Specification → World → List ℤ → List ℕ → Body → Bool
body_fits d w args vars body.One = true
body_fits d w args vars (body.Param n) = nat_lt n (length args)
body_fits d w args vars (body.Count k es) =
    nat_lt k (length d.counters) && elems_fit w args vars (counter_keys d k) es

-- a coefficient in range, and a body that fits
abbrev pub summand_fits : Specification → World → List ℤ → List ℕ → Summand → Bool
summand_fits d w args vars s = in_literal_range s.coef && body_fits d w args vars s.body

-- few summands, each of which fits
abbrev pub term_fits : Specification → World → List ℤ → List ℕ → Term → Bool
term_fits d w args vars t =
    nat_le (length t.summands) most_summands && list_all (summand_fits d w args vars) t.summands

-- Arguments and variables fit a formula: all that it names exists, each reading has its places or keys, what stands there
-- is an element of the sort, and terms are within the limits.
abbrev pub form_fits : Specification → World → List ℤ → List ℕ → Form → Bool
form_fits d w args vars true_form = true
form_fits d w args vars false_form = true
form_fits d w args vars (not_form f) = form_fits d w args vars f
form_fits d w args vars (and_form f g) = form_fits d w args vars f && form_fits d w args vars g
form_fits d w args vars (or_form f g) = form_fits d w args vars f && form_fits d w args vars g
form_fits d w args vars (implies_form f g) = form_fits d w args vars f && form_fits d w args vars g
form_fits d w args vars (has_form k es) =
    nat_lt k (length d.relations) && elems_fit w args vars (relation_places d k) es
form_fits d w args vars (same_form a b) = elem_exists w args vars a && elem_exists w args vars b
form_fits d w args vars (differ_form a b) = elem_exists w args vars a && elem_exists w args vars b
form_fits d w args vars (compare_form t c u) =
    term_fits d w args vars t && term_fits d w args vars u

-- a line without a quantifier
abbrev pub is_plain : Prefix → Bool
is_plain Plain = true
is_plain Forall = false
is_plain Exists = false

-- a plain line has no variables, and no line more than three, of sorts that exist
abbrev pub vars_fit : World → Line → Bool
vars_fit w l =
    nat_le (length l.vars) (if is_plain l.prefix then 0 else most_variables)
    && list_all (λ s. nat_lt s (length w.sizes)) l.vars

-- Arguments fit a line: with each choice of elements for its variables they fit its body.
abbrev pub line_fits : Specification → World → List ℤ → Line → Bool
line_fits d w args l =
    vars_fit w l && list_all (λ vars. form_fits d w args vars l.body) (tuples w l.vars)

-- ---- updates and takings at arguments

-- each spot is every element of its place, or an element of the place's sort
abbrev pub spots_fit : World → List ℤ → List ℕ → List Spot → Bool
spots_fit w args [] [] = true
spots_fit w args [] (x ∷ xs) = false
spots_fit w args (s ∷ ss) [] = false
spots_fit w args (s ∷ ss) (Every ∷ xs) = spots_fit w args ss xs
spots_fit w args (s ∷ ss) (One e ∷ xs) =
    elem_exists w args [] e && nat_lt (elem_of w args [] e) (size_of w s) && spots_fit w args ss xs

-- relations are inserted into and removed from; counters are added to and set, by terms that fit
abbrev pub change_fits : Specification → World → List ℤ → Thing → Change → Bool
change_fits d w args (thing.Relation k) Insert = nat_lt k (length d.relations)
change_fits d w args (thing.Relation k) Remove = nat_lt k (length d.relations)
change_fits d w args (thing.Relation k) (Add t) = false
change_fits d w args (thing.Relation k) (Set t) = false
change_fits d w args (thing.Counter k) Insert = false
change_fits d w args (thing.Counter k) Remove = false
change_fits d w args (thing.Counter k) (Add t) =
    nat_lt k (length d.counters) && term_fits d w args [] t
change_fits d w args (thing.Counter k) (Set t) =
    nat_lt k (length d.counters) && term_fits d w args [] t

-- Arguments fit an update.
abbrev pub update_fits : Specification → World → List ℤ → UpdateLine → Bool
update_fits d w args u =
    change_fits d w args u.thing u.change && spots_fit w args (places_of d u.thing) u.at
    && form_fits d w args [] u.guard

-- Arguments fit a taking.
abbrev pub take_fits : Specification → World → List ℤ → Take → Bool
take_fits d w args t =
    nat_lt t.token (length d.tokens) && elems_fit w args [] (token_places d t.token) t.args

-- All that an operation asks and does fits at these arguments, and is within the limits.
pub record OperationFits (d : Specification) (w : World) (args : List ℤ)
    (o : Operation) : Type 0 where
  pub requires_ : list_all (line_fits d w args) o.requires_ ≡ true
  pub observes : list_all (line_fits d w args) o.observes ≡ true
  pub updates : list_all (update_fits d w args) o.updates ≡ true
  pub takes : list_all (take_fits d w args) o.takes ≡ true
  pub few_requires : length o.requires_ ≤ most_requires
  pub few_observes : length o.observes ≤ most_observes
  pub few_updates : length o.updates ≤ most_updates
  pub few_takes : length o.takes ≤ most_takes

-- ---- readings that agree

-- Two readings agree at each tuple of elements of each relation's places, and at each key of each counter.
pub record AgreeOn (d : Specification) (w : World) (r s : Reads) : Type 0 where
  pub has : (k : ℕ) (t : List ℕ) → k < length d.relations
      → fits_places w (relation_places d k) t ≡ true → r.has k t ≡ s.has k t
  pub count : (k : ℕ) (t : List ℕ) → k < length d.counters
      → fits_places w (counter_keys d k) t ≡ true → r.count k t ≡ s.count k t
