-- Lines of a specification fit: invariants without arguments, requires lines at the arguments of their calls.
use Rattle.std.proofs.Common.{◌≡◌, ℕ, ◌<◌, ◌≤◌, ℤ, Bool, true, false, cond, List, [], length, inl, inr, sym, ◌∙◌, ap, arith}
use Rattle.std.proofs.lemmas.Bool.{and_parts, leb-true, cases_lt}
use Rattle.std.proofs.lemmas.List.{get_or_past}
use Rattle.spec_core.specs.declared.world.World.{World}
use Rattle.spec_core.specs.declared.world.Call.{Call}
use Rattle.spec_core.specs.declared.operation.Operation.{Operation}
use Rattle.spec_core.specs.declared.spec.Invariant.{Invariant}
use Rattle.spec_core.specs.Limits.{most_requires}
use Rattle.spec_core.specs.Line.{Line}
use Rattle.spec_core.specs.Specification.{Specification, no_operation, no_invariant, no_line, op_of}
use Rattle.spec_core.specs.World.{tuples}
use Rattle.spec_core.specs.Truth.{is_exists}
use Rattle.spec_core.specs.Meaning.{invariant_line}
use Rattle.spec_core.specs.Fits.{fits_places, world_fits, call_fits, form_fits, line_fits}
use Rattle.spec_core.specs.Typed.{is_operation, is_specification}
use Rattle.spec_core.proofs.Lists.{list_all-within}
use Rattle.spec_core.proofs.Members.{is_in-tuples}
use Rattle.spec_core.proofs.Operations.{fitting_world, call_operation_fits, invariants_fit}
use Rattle.spec_core.proofs.Parts.{parts_of, operation_parts}
use Rattle.spec_core.proofs.States.{list_all-is_in}
use Rattle.obligation_list.specs.Breaking.{requires_line, failing_vars}

-- an operation has few requires lines, and one that isn't there has none
pub few_requires : (d : Specification) → is_specification d ≡ true → (o : ℕ) → length (op_of d o).requires_ ≤ most_requires
few_requires d well o = elim (cases_lt o (length d.operations)) [
  | inl lt ↦ leb-true (length (op_of d o).requires_) most_requires (operation_parts d (op_of d o) (list_all-within (is_operation d) d.operations (parts_of d well).operations o no_operation lt)).few_requires
  | inr past ↦ (let e = ap (λ (p : Operation). length p.requires_) (get_or_past d.operations o no_operation past) in omega (arith, e))
]

module _ (d : Specification) (w : World) (well : is_specification d ≡ true) (world : world_fits d w ≡ true) where
  -- an invariant fits without arguments
  pub invariant_fits : (i : ℕ) → i < length d.invariants → line_fits d w [] (invariant_line d i) ≡ true
  invariant_fits i lt = list_all-within (λ (i : Invariant). line_fits d w [] i.line) d.invariants (invariants_fit d w well (fitting_world d w world)) i no_invariant lt

  -- a requires line of an operation fits at the arguments of its calls
  pub requires_line_fits : (c : Call) → call_fits d w c ≡ true → (l : ℕ) → l < length (op_of d c.op).requires_ → line_fits d w c.args (requires_line d c.op l) ≡ true
  requires_line_fits c h l lt = list_all-within (line_fits d w c.args) (op_of d c.op).requires_ (call_operation_fits d w c well world h).requires_ l no_line lt

-- a line fits at each choice of elements for its variables
pub body_fits : (d : Specification) (w : World) (args : List ℤ) (l : Line) (es : List ℕ) → is_exists l.prefix ≡ false → line_fits d w args l ≡ true → fits_places w (failing_vars l) es ≡ true → form_fits d w args es l.body ≡ true
body_fits d w args l es n h f =
    list_all-is_in (λ vars. form_fits d w args vars l.body) (tuples w l.vars) es (and_parts _ _ h).1
    (is_in-tuples w l.vars es ∙ (let e : fits_places w (failing_vars l) es ≡ fits_places w l.vars es = ap (λ (b : Bool). fits_places w (cond b [] l.vars) es) n in sym e ∙ f))
