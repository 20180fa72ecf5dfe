-- The lines of an operation.
use Rattle.std.specs.Prelude.{ℕ, nat_lt, Bool, true, false, ◌&&◌, ◌==◌, if◌then◌else◌, List, [], ◌∷◌, ◌++◌, length, map, Option, None, Some, unwrap_or, Result, Ok, Err}
use Rattle.spec_core.specs.declared.operation.Operation.{Operation}
use Rattle.spec_core.specs.declared.operation.Take.{Take}
use Rattle.spec_core.specs.declared.update.Thing.{Thing}
use Rattle.spec_core.specs.declared.update.Thing.TheVariants as thing
use Rattle.spec_core.specs.declared.update.Spot.{Spot as CoreSpot}
use Rattle.spec_core.specs.declared.update.Spot.TheVariants as spot
use Rattle.spec_core.specs.declared.update.Change.{Change}
use Rattle.spec_core.specs.declared.update.Change.TheVariants as change
use Rattle.spec_core.specs.Form.{true_form as true_of}
use Rattle.spec_core.specs.Form as core
use Rattle.spec_core.specs.UpdateLine.{UpdateLine}
use Rattle.spec_core.specs.Limits.{most_requires, most_updates, most_takes, most_observes}
use Rattle.spec_core.specs.Specification.{Specification, relation_places, counter_keys, token_places}
use Rattle.spec_trees.specs.declared.tree.Mark.{Mark}
use Rattle.spec_trees.specs.declared.tree.Reading.{Reading}
use Rattle.spec_trees.specs.declared.tree.Term.{Term}
use Rattle.spec_trees.specs.declared.tree.Spot.{Spot}
use Rattle.spec_trees.specs.declared.tree.Spot.TheVariants as spots
use Rattle.spec_trees.specs.declared.tree.Mode.{Mode}
use Rattle.spec_trees.specs.declared.tree.Mode.TheVariants as modes
use Rattle.spec_trees.specs.Form.{Form, LineForm, requires_form, insert_form, remove_form, add_form, set_form, takes_form, observes_form}
use Rattle.typing_rules.specs.declared.which.Which.TheVariants.{Requires, Updates, Takes, Observes}
use Rattle.typing_rules.specs.Fault.{Fault, ◌otherwise◌, limit_at}
use Rattle.typing_rules.specs.Scope.{Scope, stranger_fault, relation_meant, counter_meant, token_meant}
use Rattle.typing_rules.specs.Terms.{elem_of, elem_fault, elems_of, places_fault, args_fault, term_fault, term_of}
use Rattle.typing_rules.specs.Formulas.{formula_fault, formula_of, sentence_fault, sentence_of}

-- ---- updates

-- a spot is `*`, or an element of the sort of its place
abbrev pub spot_fault : Scope → ℕ → Spot → Option Fault
spot_fault sc s (spots.One m) = elem_fault sc s m
spot_fault sc s spots.Every = None

-- the spots at places of these sorts
abbrev pub spots_fault : Scope → List ℕ → List Spot → Option Fault
spots_fault sc (s ∷ ss) (x ∷ xs) = spot_fault sc s x otherwise spots_fault sc ss xs
spots_fault sc ss xs = None

-- the spot that a tree's spot is
abbrev pub spot_of : Scope → Spot → CoreSpot
spot_of sc (spots.One m) = spot.One (elem_of sc m)
spot_of sc spots.Every = spot.Every

-- the spots that a tree's spots are
abbrev pub spots_of : Scope → List Spot → List CoreSpot
spots_of sc xs = map (spot_of sc) xs

-- a name needs as many spots as it has places
abbrev pub target_fault_at : Scope → Mark → List Spot → List ℕ → Option Fault
target_fault_at sc m xs places =
    places_fault m places (length xs) otherwise spots_fault sc places xs

-- what is wrong with the target of an update of a relation, where it is known which one the name is
abbrev pub relation_fault_at : Scope → Mark → List Spot → Option ℕ → Option Fault
relation_fault_at sc m xs (Some k) = target_fault_at sc m xs (relation_places sc.design k)
relation_fault_at sc m xs None = stranger_fault sc m

-- what is wrong with the target of an update of a counter, where it is known which one the name is
abbrev pub counter_fault_at : Scope → Mark → List Spot → Option ℕ → Option Fault
counter_fault_at sc m xs (Some k) = target_fault_at sc m xs (counter_keys sc.design k)
counter_fault_at sc m xs None = stranger_fault sc m

-- what is inserted into or removed from is a relation
abbrev pub relation_target_fault : Scope → Mark → List Spot → Option Fault
relation_target_fault sc m xs = relation_fault_at sc m xs (relation_meant (sc.names m.text))

-- what is added to or set is a counter
abbrev pub counter_target_fault : Scope → Mark → List Spot → Option Fault
counter_target_fault sc m xs = counter_fault_at sc m xs (counter_meant (sc.names m.text))

-- what is wrong with a condition, where there is one
abbrev pub guard_fault : Scope → Option Form → Option Fault
guard_fault sc None = None
guard_fault sc (Some f) = formula_fault sc f

-- a missing guard is true
abbrev pub guard_formula : Scope → Option Form → core.Form
guard_formula sc None = true_of
guard_formula sc (Some f) = formula_of sc f

-- the relation that a name is; what is none stands for the first one, and is refused
abbrev pub relation_target : Scope → Mark → Thing
relation_target sc m = thing.Relation (unwrap_or (relation_meant (sc.names m.text)) 0)

-- the counter that a name is; what is none stands for the first one, and is refused
abbrev pub counter_target : Scope → Mark → Thing
counter_target sc m = thing.Counter (unwrap_or (counter_meant (sc.names m.text)) 0)

-- an update of its parts
abbrev pub update_of : Scope → Thing → List Spot → Change → Option Form → UpdateLine
update_of sc t xs c g =
    record { thing = t; at = spots_of sc xs; change = c; guard = guard_formula sc g }

-- ---- takings

-- the same, where it is known which token the name is
abbrev pub taking_fault_at : Scope → Reading → Option ℕ → Option Fault
taking_fault_at sc r (Some k) = args_fault sc r (token_places sc.design k)
taking_fault_at sc r None = stranger_fault sc r.name

-- what is taken is a token
abbrev pub taking_fault : Scope → Reading → Option Fault
taking_fault sc r = taking_fault_at sc r (token_meant (sc.names r.name.text))

-- the token is taken shared
abbrev pub is_shared : Mode → Bool
is_shared modes.Missing = false
is_shared modes.Shared = true
is_shared modes.Exclusive = false

-- only language version 2 has modes
abbrev pub take_of : Scope → Reading → Mode → Take
take_of sc r m = record {
  token = unwrap_or (token_meant (sc.names r.name.text)) 0;
  args = elems_of sc r.args;
  shared = is_shared m && (sc.design.version == 2);
}

-- ---- lines

-- language version 1 has no observes lines
abbrev pub most_observed : Specification → ℕ
most_observed d = if d.version == 2 then most_observes else 0

-- A line of an operation that has these lines before it, of each kind of which there may be so many.
abbrev pub line_fault : Scope → Operation → LineForm → Option Fault
line_fault sc o (requires_form w s) =
    limit_at Requires most_requires (length o.requires_) w otherwise sentence_fault sc s
line_fault sc o (insert_form w m xs g) =
    limit_at Updates most_updates (length o.updates) w
    otherwise relation_target_fault sc m xs
    otherwise guard_fault sc g
line_fault sc o (remove_form w m xs g) =
    limit_at Updates most_updates (length o.updates) w
    otherwise relation_target_fault sc m xs
    otherwise guard_fault sc g
line_fault sc o (add_form w m xs t g) =
    limit_at Updates most_updates (length o.updates) w
    otherwise counter_target_fault sc m xs
    otherwise term_fault sc t
    otherwise guard_fault sc g
line_fault sc o (set_form w m xs t g) =
    limit_at Updates most_updates (length o.updates) w
    otherwise counter_target_fault sc m xs
    otherwise term_fault sc t
    otherwise guard_fault sc g
line_fault sc o (takes_form w r m) =
    limit_at Takes most_takes (length o.takes) w otherwise taking_fault sc r
line_fault sc o (observes_form w s) =
    limit_at Observes (most_observed sc.design) (length o.observes) w otherwise sentence_fault sc s

-- the operation with one more update
abbrev pub with_update : Operation → UpdateLine → Operation
with_update o u = record o { updates = o.updates ++ u ∷ [] }

-- the operation with one more line
abbrev pub with_line : Scope → Operation → LineForm → Operation
with_line sc o (requires_form w s) = record o { requires_ = o.requires_ ++ sentence_of sc s ∷ [] }
with_line sc o (insert_form w m xs g) =
    with_update o (update_of sc (relation_target sc m) xs change.Insert g)
with_line sc o (remove_form w m xs g) =
    with_update o (update_of sc (relation_target sc m) xs change.Remove g)
with_line sc o (add_form w m xs t g) =
    with_update o (update_of sc (counter_target sc m) xs (change.Add (term_of sc t)) g)
with_line sc o (set_form w m xs t g) =
    with_update o (update_of sc (counter_target sc m) xs (change.Set (term_of sc t)) g)
with_line sc o (takes_form w r m) = record o { takes = o.takes ++ take_of sc r m ∷ [] }
with_line sc o (observes_form w s) = record o { observes = o.observes ++ sentence_of sc s ∷ [] }

-- what comes behind a part, unless the part has a fault
abbrev pub unless : {A : Type 0} → Option Fault → Result A Fault → Result A Fault
unless None r = r
unless (Some f) r = Err f

-- The lines are taken in their order. The first that has a fault ends it: in a tree that is read, its words come before those of
-- later lines.
abbrev pub typed_lines : Scope → Operation → List LineForm → Result Operation Fault
typed_lines sc o [] = Ok o
typed_lines sc o (l ∷ ls) = unless (line_fault sc o l) (typed_lines sc (with_line sc o l) ls)
