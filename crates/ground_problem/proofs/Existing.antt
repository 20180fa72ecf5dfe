-- The operations of an obligation exist, and so do the sorts of its constants.
use Rattle.std.proofs.Common.{◌≡◌, ℕ, zero, suc, ◌<◌, nat_lt, Bool, true, false, cond, List, [], ◌∷◌, ◌++◌, map, length, get_or, slice_index, filter_map, flat_map, refl, ◌∙◌, arith}
use Rattle.std.specs.List.{list_all}
use Rattle.std.proofs.lemmas.Bool.{and_parts, and_from}
use Rattle.std.proofs.lemmas.List.Folds.{list_all-append, list_all-map}
use Rattle.spec_core.specs.declared.operation.Kind.{Kind}
use Rattle.spec_core.specs.declared.operation.Kind.TheVariants.{Sort, Int}
use Rattle.spec_core.specs.declared.operation.Param.{Param as Parameter}
use Rattle.spec_core.specs.declared.update.Thing.{Thing}
use Rattle.spec_core.specs.declared.update.Thing.TheVariants as thing
use Rattle.spec_core.specs.Line.{Line}
use Rattle.spec_core.specs.Specification.{Specification, op_of, no_operation, no_relation, no_counter, no_line, places_of}
use Rattle.spec_core.specs.Truth.{is_exists}
use Rattle.spec_core.specs.Meaning.{invariant_line}
use Rattle.spec_core.specs.Typed.{sort_of_kind, is_kind, is_parameter, is_line, is_operation, is_relation, is_counter, is_specification}
use Rattle.spec_core.proofs.Lists.{list_all-get_or, list_all-within}
use Rattle.spec_core.proofs.Parts.{parts_of, operation_parts}
use Rattle.obligation_list.specs.declared.obligation.Obligation.{Obligation}
use Rattle.obligation_list.specs.declared.obligation.Obligation.TheVariants.{Init, Safety, Commute, Stable}
use Rattle.obligation_list.specs.Obligations.{IsObligation}
use Rattle.obligation_list.specs.Breaking.{operations_of, elements_of, requires_line, failing_vars}
use Rattle.ground_problem.specs.Constants.{constants_of, sorts_of_params, chosen_vars, concatenated, params_of, chosen_of}
use Rattle.ground_problem.proofs.Interpret.{invariant_typed}

-- the operation of each call exists
pub operation_there : (d : Specification) (ob : Obligation) → IsObligation d ob → (n : ℕ) → n < length (operations_of ob) → slice_index (operations_of ob) n < length d.operations
operation_there d (Init i) io n l = absurd (omega arith)
operation_there d (Safety o i) io zero l = io.0
operation_there d (Safety o i) io (suc n) l = absurd (omega arith)
operation_there d (Commute o p x) io zero l = (let a = io.0 in let b = io.1 in omega arith)
operation_there d (Commute o p x) io (suc zero) l = io.1
operation_there d (Commute o p x) io (suc (suc n)) l = absurd (omega arith)
operation_there d (Stable o l p) io zero h = io.0
operation_there d (Stable o l p) io (suc zero) h = io.2
operation_there d (Stable o l p) io (suc (suc n)) h = absurd (omega arith)

pub operation_typed : (d : Specification) (ob : Obligation) → is_specification d ≡ true → IsObligation d ob → (n : ℕ) → n < length (operations_of ob) → is_operation d (op_of d (slice_index (operations_of ob) n)) ≡ true
operation_typed d ob t io n l = list_all-within (is_operation d) d.operations (parts_of d t).operations (slice_index (operations_of ob) n) no_operation (operation_there d ob io n l)

-- these sorts exist
abbrev pub AllSorts : Specification → List ℕ → Type 0
AllSorts d ss = list_all (λ s. nat_lt s (length d.sorts)) ss ≡ true

sorts_append : (d : Specification) (a b : List ℕ) → AllSorts d a → AllSorts d b → AllSorts d (a ++ b)
sorts_append d a b h k = list_all-append (λ s. nat_lt s (length d.sorts)) a b ∙ and_from _ _ h k

params_exist : (d : Specification) (ps : List Parameter) → list_all (is_parameter d) ps ≡ true → AllSorts d (sorts_of_params ps)
params_exist d [] h = refl
params_exist d (p ∷ ps) h = (let h2 = and_parts (is_parameter d p) (list_all (is_parameter d) ps) h in by_kind p.kind (and_parts (is_kind d p.kind) _ h2.0).0 (params_exist d ps h2.1))
  where
    by_kind : (k : Kind) → is_kind d k ≡ true → AllSorts d (sorts_of_params ps) → AllSorts d (filter_map (λ (p : Parameter). sort_of_kind p.kind) (record p { kind = k } ∷ ps))
    by_kind (Sort s) a b = and_from (nat_lt s (length d.sorts)) _ a b
    by_kind Int a b = b

line_vars : (d : Specification) (ps : List Parameter) (l : Line) → is_line d ps l ≡ true → AllSorts d l.vars
line_vars d ps l h = (and_parts _ _ (and_parts _ _ h).0).1

chosen_exist : (d : Specification) (ps : List Parameter) (l : Line) → is_line d ps l ≡ true → AllSorts d (chosen_vars l)
chosen_exist d ps l h = by_test (is_exists l.prefix)
  where
    by_test : (b : Bool) → AllSorts d (cond b l.vars [])
    by_test true = line_vars d ps l h
    by_test false = refl

failing_exist : (d : Specification) (ps : List Parameter) (l : Line) → is_line d ps l ≡ true → AllSorts d (failing_vars l)
failing_exist d ps l h = by_test (is_exists l.prefix)
  where
    by_test : (b : Bool) → AllSorts d (cond b [] l.vars)
    by_test true = refl
    by_test false = line_vars d ps l h

lines_exist : (d : Specification) (ps : List Parameter) (ls : List Line) → list_all (is_line d ps) ls ≡ true → AllSorts d (concatenated (map chosen_vars ls))
lines_exist d ps [] h = refl
lines_exist d ps (l ∷ ls) h = (let h2 = and_parts (is_line d ps l) (list_all (is_line d ps) ls) h in sorts_append d (chosen_vars l) (concatenated (map chosen_vars ls)) (chosen_exist d ps l h2.0) (lines_exist d ps ls h2.1))

all_params_exist : (d : Specification) (os : List ℕ) → list_all (λ o. is_operation d (op_of d o)) os ≡ true → AllSorts d (flat_map sorts_of_params (map (λ o. (op_of d o).params) os))
all_params_exist d [] h = refl
all_params_exist d (o ∷ os) h =
    let h2 = and_parts (is_operation d (op_of d o)) (list_all (λ o. is_operation d (op_of d o)) os) h in
    sorts_append d (sorts_of_params (op_of d o).params) (flat_map sorts_of_params (map (λ o. (op_of d o).params) os)) (params_exist d (op_of d o).params (operation_parts d (op_of d o) h2.0).params) (all_params_exist d os h2.1)

all_chosen_exist : (d : Specification) (os : List ℕ) → list_all (λ o. is_operation d (op_of d o)) os ≡ true → AllSorts d (flat_map concatenated (map (λ o. map chosen_vars (op_of d o).requires_) os))
all_chosen_exist d [] h = refl
all_chosen_exist d (o ∷ os) h =
    let h2 = and_parts (is_operation d (op_of d o)) (list_all (λ o. is_operation d (op_of d o)) os) h in
    sorts_append d (concatenated (map chosen_vars (op_of d o).requires_)) (flat_map concatenated (map (λ o. map chosen_vars (op_of d o).requires_) os)) (lines_exist d (op_of d o).params (op_of d o).requires_ (operation_parts d (op_of d o) h2.0).requires_) (all_chosen_exist d os h2.1)

places_exist : (d : Specification) → is_specification d ≡ true → (x : Thing) → AllSorts d (places_of d x)
places_exist d t (thing.Relation k) = (and_parts _ _ (list_all-get_or (is_relation d) d.relations (parts_of d t).relations k no_relation refl)).1
places_exist d t (thing.Counter k) = (and_parts _ _ (and_parts _ _ (list_all-get_or (is_counter d) d.counters (parts_of d t).counters k no_counter refl)).0).1

elements_exist : (d : Specification) (ob : Obligation) → is_specification d ≡ true → IsObligation d ob → AllSorts d (elements_of d ob)
elements_exist d (Init i) t io = failing_exist d [] (invariant_line d i) (invariant_typed d t i)
elements_exist d (Safety o i) t io = failing_exist d [] (invariant_line d i) (invariant_typed d t i)
elements_exist d (Commute o p x) t io = places_exist d t x
elements_exist d (Stable o l p) t io = failing_exist d (op_of d o).params (requires_line d o l) (requires_typed d (op_of d o).params (op_of d o).requires_ (operation_parts d (op_of d o) (operation_typed d (Stable o l p) t io 0 (omega arith))).requires_ l)
  where
    requires_typed : (d : Specification) (ps : List Parameter) (ls : List Line) → list_all (is_line d ps) ls ≡ true → (l : ℕ) → is_line d ps (get_or ls l no_line) ≡ true
    requires_typed d ps ls h l = list_all-get_or (is_line d ps) ls h l no_line refl

all_operations : (d : Specification) (ob : Obligation) → is_specification d ≡ true → IsObligation d ob → list_all (λ o. is_operation d (op_of d o)) (operations_of ob) ≡ true
all_operations d (Init i) t io = refl
all_operations d (Safety o i) t io = and_from _ _ (operation_typed d (Safety o i) t io 0 (omega arith)) refl
all_operations d (Commute o p x) t io = and_from _ _ (operation_typed d (Commute o p x) t io 0 (omega arith)) (and_from _ _ (operation_typed d (Commute o p x) t io 1 (omega arith)) refl)
all_operations d (Stable o l p) t io = and_from _ _ (operation_typed d (Stable o l p) t io 0 (omega arith)) (and_from _ _ (operation_typed d (Stable o l p) t io 1 (omega arith)) refl)

-- every sort of the constants exists
pub sorts_exist : (d : Specification) (ob : Obligation) → is_specification d ≡ true → IsObligation d ob → AllSorts d (constants_of d ob).sorts
sorts_exist d ob t io =
    let declared = list_all-map (λ s. nat_lt s (length d.sorts)) (λ c. c.sort) d.consts ∙ (and_parts _ _ (parts_of d t).consts).0 in
    let all = all_operations d ob t io in
    sorts_append d (map (λ c. c.sort) d.consts) (flat_map sorts_of_params (params_of d ob) ++ (flat_map concatenated (chosen_of d ob) ++ elements_of d ob)) declared
    (sorts_append d (flat_map sorts_of_params (params_of d ob)) (flat_map concatenated (chosen_of d ob) ++ elements_of d ob) (all_params_exist d (operations_of ob) all)
    (sorts_append d (flat_map concatenated (chosen_of d ob)) (elements_of d ob) (all_chosen_exist d (operations_of ob) all) (elements_exist d ob t io)))
