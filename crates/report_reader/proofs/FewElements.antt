-- A conclusion fails at few elements.
use Rattle.std.proofs.Common.{◌≡◌, ℕ, ◌≤◌, true, cond, leb, List, [], length, get_or, ap, arith, inl, inr, lit≤}
use Rattle.std.proofs.lemmas.Bool.{and_parts, leb-true, cases_lt}
use Rattle.std.specs.List.{list_all}
use Rattle.spec_core.specs.declared.line.Prefix.{Prefix}
use Rattle.spec_core.specs.declared.line.Prefix.TheVariants.{Plain, Forall, Exists}
use Rattle.spec_core.specs.declared.operation.Param.{Param as Parameter}
use Rattle.spec_core.specs.declared.operation.Operation.{Operation}
use Rattle.spec_core.specs.declared.spec.Invariant.{Invariant}
use Rattle.spec_core.specs.declared.update.Thing.{Thing}
use Rattle.spec_core.specs.declared.update.Thing.TheVariants as thing
use Rattle.spec_core.specs.Limits.{most_variables}
use Rattle.spec_core.specs.Line.{Line}
use Rattle.spec_core.specs.Specification.{Specification, no_line, no_invariant, no_operation, op_of, places_of}
use Rattle.spec_core.specs.Fits.{is_plain}
use Rattle.spec_core.specs.Truth.{is_exists}
use Rattle.spec_core.specs.Typed.{is_line, is_invariant, is_operation, is_specification}
use Rattle.spec_core.proofs.Lists.{list_all-within}
use Rattle.spec_core.proofs.Parts.{parts_of, operation_parts, few_places, few_keys}
use Rattle.obligation_list.specs.declared.obligation.Obligation.{Obligation}
use Rattle.obligation_list.specs.declared.obligation.Obligation.TheVariants.{Init, Safety, Commute, Stable}
use Rattle.obligation_list.specs.Breaking.{failing_vars, requires_line, elements_of}
use Rattle.std.proofs.lemmas.List.{get_or_past}

few_at : (p : Prefix) (vars : List ℕ) → leb (length vars) (cond (is_plain p) 0 most_variables) ≡ true → length (cond (is_exists p) [] vars) ≤ 3
few_at Plain vars h = let e = leb-true (length vars) 0 h in omega (arith, e)
few_at Forall vars h = leb-true (length vars) 3 h
few_at Exists vars h = lit≤ tt

few_failing : (d : Specification) (ps : List Parameter) (l : Line) → is_line d ps l ≡ true → length (failing_vars l) ≤ 3
few_failing d ps l h = few_at l.prefix l.vars (and_parts _ _ (and_parts _ _ h).0).0

few_of_invariant : (d : Specification) → is_specification d ≡ true → (i : ℕ) → length (failing_vars (get_or d.invariants i no_invariant).line) ≤ 3
few_of_invariant d ok i = elim (cases_lt i (length d.invariants)) [
  | inl lt ↦ few_failing d [] (get_or d.invariants i no_invariant).line (and_parts _ _ (list_all-within (is_invariant d) d.invariants (parts_of d ok).invariants i no_invariant lt)).1
  | inr past ↦ (let e = ap (λ (x : Invariant). length (failing_vars x.line)) (get_or_past d.invariants i no_invariant past) in omega (arith, e))
]

few_of_requires : (d : Specification) (ps : List Parameter) (ls : List Line) (l : ℕ) → list_all (is_line d ps) ls ≡ true → length (failing_vars (get_or ls l no_line)) ≤ 3
few_of_requires d ps ls l h = elim (cases_lt l (length ls)) [
  | inl lt ↦ few_failing d ps (get_or ls l no_line) (list_all-within (is_line d ps) ls h l no_line lt)
  | inr past ↦ (let e = ap (λ (x : Line). length (failing_vars x)) (get_or_past ls l no_line past) in omega (arith, e))
]

few_of_operation : (d : Specification) → is_specification d ≡ true → (o l : ℕ) → length (failing_vars (requires_line d o l)) ≤ 3
few_of_operation d ok o l = elim (cases_lt o (length d.operations)) [
  | inl lt ↦ few_of_requires d (op_of d o).params (op_of d o).requires_ l (operation_parts d (op_of d o) (list_all-within (is_operation d) d.operations (parts_of d ok).operations o no_operation lt)).requires_
  | inr past ↦ (let e = ap (λ (x : Operation). length (failing_vars (get_or x.requires_ l no_line))) (get_or_past d.operations o no_operation past) in omega (arith, e))
]

few_of_thing : (d : Specification) → is_specification d ≡ true → (x : Thing) → length (places_of d x) ≤ 3
few_of_thing d ok (thing.Relation k) = few_places d ok k
few_of_thing d ok (thing.Counter k) = let h = few_keys d ok k in omega (arith, h)

-- at most three
pub few_elements : (d : Specification) → is_specification d ≡ true → (ob : Obligation) → length (elements_of d ob) ≤ 3
few_elements d ok (Init i) = few_of_invariant d ok i
few_elements d ok (Safety o i) = few_of_invariant d ok i
few_elements d ok (Commute o p x) = few_of_thing d ok x
few_elements d ok (Stable o l p) = few_of_operation d ok o l
