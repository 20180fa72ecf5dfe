-- All that a well-formed operation asks and does fits at the arguments of its calls, and invariants fit without arguments.
use Rattle.std.proofs.Common.{◌≡◌, ℕ, ◌<◌, ◌≤◌, ℤ, Bool, true, false, not, cond, ◌&&◌, ◌||◌, ◌==◌, nat_lt, nat_le, List, [], ◌∷◌, length, refl, arith}
use Rattle.std.proofs.lemmas.Bool.{and_parts, and_from}
use Rattle.std.proofs.lemmas.Bool.Decides.{nat_tests}
use Rattle.std.specs.List.{list_all}
use Rattle.spec_core.specs.declared.operation.Param.{Param as Parameter}
use Rattle.spec_core.specs.declared.operation.Take.{Take}
use Rattle.spec_core.specs.declared.operation.Operation.{Operation}
use Rattle.spec_core.specs.declared.spec.Invariant.{Invariant}
use Rattle.spec_core.specs.declared.update.Thing.{Thing}
use Rattle.spec_core.specs.declared.update.Thing.TheVariants as thing
use Rattle.spec_core.specs.declared.update.Spot.{Spot}
use Rattle.spec_core.specs.declared.update.Spot.TheVariants.{Every, One}
use Rattle.spec_core.specs.declared.update.Change.{Change}
use Rattle.spec_core.specs.declared.update.Change.TheVariants.{Insert, Remove, Add, Set}
use Rattle.spec_core.specs.declared.world.World.{World}
use Rattle.spec_core.specs.declared.world.Call.{Call}
use Rattle.spec_core.specs.Limits.{most_requires, most_updates, most_takes, most_observes}
use Rattle.spec_core.specs.UpdateLine.{UpdateLine}
use Rattle.spec_core.specs.Specification.{Specification, no_operation, op_of, places_of, token_places}
use Rattle.spec_core.specs.Truth.{is_exists}
use Rattle.spec_core.specs.Fits.{in_state_range, is_world, are_arguments, is_call, world_fits, call_fits, line_fits, spots_fit, change_fits, update_fits, take_fits, OperationFits}
use Rattle.spec_core.specs.Typed.{is_sort, sort_of, elems_typed, spots_typed, change_typed, is_update, is_take, is_formula, is_line, is_invariant, is_operation, is_specification}
use Rattle.spec_core.proofs.Lists.{list_all-within, list_all-mono}
use Rattle.spec_core.proofs.Parts.{parts_of, operation_parts}
use Rattle.spec_core.proofs.Fitting.{stands, elems_fit_typed, term_fits_typed, formula_fits, line_fits_typed}

module _ (d : Specification) (w : World) (world : is_world d w ≡ true) (params : List Parameter) (args : List ℤ) (fit : are_arguments w params args ≡ true) where
  spots_fit_typed : (ss : List ℕ) (xs : List Spot) → spots_typed d params ss xs ≡ true → spots_fit w args ss xs ≡ true
  spots_fit_typed [] [] k = refl
  spots_fit_typed [] (x ∷ xs) k = absurd cc
  spots_fit_typed (s ∷ ss) [] k = absurd cc
  spots_fit_typed (s ∷ ss) (Every ∷ xs) k = spots_fit_typed ss xs k
  spots_fit_typed (s ∷ ss) (One e ∷ xs) k =
      let p = and_parts (is_sort (sort_of d params [] e) s) (spots_typed d params ss xs) k in
      let one = stands d w world params args fit [] [] refl s e p.0 in
      and_from _ _ (and_from _ _ one.0 one.1) (spots_fit_typed ss xs p.1)

  change_fits_typed : (x : Thing) (c : Change) → change_typed d params x c ≡ true → change_fits d w args x c ≡ true
  change_fits_typed (thing.Relation k) Insert h = h
  change_fits_typed (thing.Relation k) Remove h = h
  change_fits_typed (thing.Relation k) (Add t) h = absurd cc
  change_fits_typed (thing.Relation k) (Set t) h = absurd cc
  change_fits_typed (thing.Counter k) Insert h = absurd cc
  change_fits_typed (thing.Counter k) Remove h = absurd cc
  change_fits_typed (thing.Counter k) (Add t) h = (let p = and_parts _ _ h in and_from _ _ p.0 (term_fits_typed d w world params args fit [] [] refl t p.1))
  change_fits_typed (thing.Counter k) (Set t) h = (let p = and_parts _ _ h in and_from _ _ p.0 (term_fits_typed d w world params args fit [] [] refl t p.1))

  pub update_fits_typed : (u : UpdateLine) → is_update d params u ≡ true → update_fits d w args u ≡ true
  update_fits_typed u h =
      let p = and_parts (change_typed d params u.thing u.change && spots_typed d params (places_of d u.thing) u.at) (is_formula d params [] u.guard) h in
      let q = and_parts (change_typed d params u.thing u.change) (spots_typed d params (places_of d u.thing) u.at) p.0 in
      and_from _ _ (and_from _ _ (change_fits_typed u.thing u.change q.0) (spots_fit_typed (places_of d u.thing) u.at q.1)) (formula_fits d w world params args fit [] [] refl u.guard p.1)

  pub take_fits_typed : (t : Take) → is_take d params t ≡ true → take_fits d w args t ≡ true
  take_fits_typed t h =
      let p = and_parts (nat_lt t.token (length d.tokens) && elems_typed d params [] (token_places d t.token) t.args) (not t.shared || (d.version == 2)) h in
      let q = and_parts (nat_lt t.token (length d.tokens)) (elems_typed d params [] (token_places d t.token) t.args) p.0 in
      and_from _ _ q.0 (elems_fit_typed d w world params args fit [] [] refl (token_places d t.token) t.args q.1)

test : (m n : ℕ) → nat_le m n ≡ true → m ≤ n
test m n h = grind (arith, nat_tests)

few_observed : (b : Bool) (n m : ℕ) → nat_le n (cond b m 0) ≡ true → n ≤ m
few_observed true n m h = test n m h
few_observed false n m h = let z = test n 0 h in omega arith

below_length : (n m : ℕ) → nat_lt n m ≡ true → n < m
below_length n m h = grind (arith, nat_tests)

pub operation_fits : (d : Specification) (w : World) (args : List ℤ) (o : Operation) → is_world d w ≡ true → are_arguments w o.params args ≡ true → is_operation d o ≡ true → OperationFits d w args o
operation_fits d w args o v f h =
    let p = operation_parts d o h in
    record {
      requires_ = list_all-mono (is_line d o.params) (line_fits d w args) (line_fits_typed d w v o.params args f) o.requires_ p.requires_;
      observes = list_all-mono (is_line d o.params) (line_fits d w args) (line_fits_typed d w v o.params args f) o.observes p.observes;
      updates = list_all-mono (is_update d o.params) (update_fits d w args) (update_fits_typed d w v o.params args f) o.updates p.updates;
      takes = list_all-mono (is_take d o.params) (take_fits d w args) (take_fits_typed d w v o.params args f) o.takes p.takes;
      few_requires = test (length o.requires_) most_requires p.few_requires;
      few_observes = few_observed (d.version == 2) (length o.observes) most_observes p.few_observes;
      few_updates = test (length o.updates) most_updates p.few_updates;
      few_takes = test (length o.takes) most_takes p.few_takes;
    }

-- what a call that fits keeps
pub record CallParts (d : Specification) (w : World) (c : Call) : Type 0 where
  pub exists_ : c.op < length d.operations
  pub operation : is_operation d (op_of d c.op) ≡ true
  pub arguments : are_arguments w (op_of d c.op).params c.args ≡ true
  pub fits : OperationFits d w c.args (op_of d c.op)

pub call_parts : (d : Specification) (w : World) (c : Call) → is_specification d ≡ true → is_world d w ≡ true → is_call d w c ≡ true → CallParts d w c
call_parts d w c s v h =
    let q = and_parts (nat_lt c.op (length d.operations)) (are_arguments w (op_of d c.op).params c.args) h in
    let lt = below_length c.op (length d.operations) q.0 in
    let o = list_all-within (is_operation d) d.operations (parts_of d s).operations c.op no_operation lt in
    record { exists_ = lt; operation = o; arguments = q.1; fits = operation_fits d w c.args (op_of d c.op) v q.1 o }

-- the same for a call of a program, whose numbers are in range
pub fitting_call : (d : Specification) (w : World) (c : Call) → call_fits d w c ≡ true → (is_call d w c ≡ true) × (list_all in_state_range c.args ≡ true)
fitting_call d w c h = and_parts (is_call d w c) (list_all in_state_range c.args) h

pub fitting_world : (d : Specification) (w : World) → world_fits d w ≡ true → is_world d w ≡ true
fitting_world d w h = (and_parts _ _ h).0

-- the operation that a call names fits at its arguments
pub call_operation_fits : (d : Specification) (w : World) (c : Call) → is_specification d ≡ true → world_fits d w ≡ true → call_fits d w c ≡ true → OperationFits d w c.args (op_of d c.op)
call_operation_fits d w c s v h = (call_parts d w c s (fitting_world d w v) (fitting_call d w c h).0).fits

-- invariants fit without arguments
pub invariants_fit : (d : Specification) (w : World) → is_specification d ≡ true → is_world d w ≡ true → list_all (λ (i : Invariant). line_fits d w [] i.line) d.invariants ≡ true
invariants_fit d w s v = list_all-mono (is_invariant d) (λ (i : Invariant). line_fits d w [] i.line) (λ i h. line_fits_typed d w v [] [] refl i.line (and_parts (not (is_exists i.line.prefix)) (is_line d [] i.line) h).1) d.invariants (parts_of d s).invariants
