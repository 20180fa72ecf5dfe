-- Formulas of the specification, at constants and at readings.
use Rattle.std.specs.Prelude.{ℕ, ℤ, pos, negsuc, ◌*ℤ◌, true, false, Option, None, unwrap_or, List, [], map, get_or, slice_index}
use Rattle.spec_core.specs.declared.formula.Elem.{Elem}
use Rattle.spec_core.specs.declared.formula.Elem.TheVariants.{Const, Param, Var}
use Rattle.spec_core.specs.declared.formula.Cmp.{Cmp}
use Rattle.spec_core.specs.declared.formula.Cmp.TheVariants.{Less, AtMost, Equal, Unequal, AtLeast, Greater}
use Rattle.spec_core.specs.declared.formula.Body.{Body}
use Rattle.spec_core.specs.declared.formula.Body.TheVariants as body
use Rattle.spec_core.specs.declared.formula.Summand.{Summand}
use Rattle.spec_core.specs.declared.formula.Term.{Term}
use Rattle.spec_core.specs.Form.{Form, true_form, false_form, not_form, and_form, or_form, implies_form, has_form, same_form, differ_form, compare_form}
use Rattle.spec_core.specs.Specification.{Specification, no_relation, no_counter}
use Rattle.ground_problem.specs.Symbols.{Stage, reading, argument, Part, number, multiple, Symbolic, always, has, at_most, negated, both, either, same_const, equal, unequal}
use Rattle.ground_problem.specs.Constants.{Constants, assignments}

-- ---- who speaks, and what is read

-- a call by its place, and the constants of its parameters
pub record Caller : Type 0 where
  pub call : ℕ
  pub params : List (Option ℕ)

-- the call of this place in the obligation
abbrev pub caller : Constants → ℕ → Caller
caller z n = record { call = n; params = get_or z.params n [] }

-- an invariant is nobody's: it names no parameters
abbrev pub nobody : Caller
nobody = record { call = 0; params = [] }

-- what stands for the readings of a relation, and for a multiple of those of a counter
pub record Readings : Type 0 where
  pub has : ℕ → List ℕ → Symbolic
  pub count : ℤ → ℕ → List ℕ → Part

-- the readings at a stage
abbrev pub at_stage : Stage → Readings
at_stage k = record { has = λ r t. has k r t; count = λ n c t. multiple n (reading k c t) }

-- the readings of the initial state, which are known
abbrev pub at_start : Specification → Readings
at_start d = record {
  has = λ r t. always (get_or d.relations r no_relation).initial;
  count = λ n c t. number (n *ℤ (get_or d.counters c no_counter).initial);
}

-- ---- formulas

-- the constant that stands for an element, with these constants for the variables
abbrev pub const_of : Caller → List ℕ → Elem → ℕ
const_of c vars (Const n) = n
const_of c vars (Param n) = unwrap_or (get_or c.params n None) 0
const_of c vars (Var n) = slice_index vars n

-- the constants that stand for elements, in their order
abbrev pub consts_of : Caller → List ℕ → List Elem → List ℕ
consts_of c vars es = map (const_of c vars) es

-- a multiple of what a summand counts: of 1, of a parameter, or of a counter's reading
abbrev pub part_of_body : Readings → Caller → List ℕ → ℤ → Body → Part
part_of_body r c vars k body.One = number k
part_of_body r c vars k (body.Param n) = multiple k (argument c.call n)
part_of_body r c vars k (body.Count i es) = r.count k i (consts_of c vars es)

-- a summand over constants and readings
abbrev pub part_of : Readings → Caller → List ℕ → Summand → Part
part_of r c vars s = part_of_body r c vars s.coef s.body

-- a sum over constants and readings
abbrev pub parts_of : Readings → Caller → List ℕ → Term → List Part
parts_of r c vars t = map (part_of r c vars) t.summands

-- a comparison of two sums; `>` and `>=` exchange the sides
abbrev pub comparison : Cmp → List Part → List Part → Symbolic
comparison Less t u = at_most t u (negsuc 0)
comparison AtMost t u = at_most t u (pos 0)
comparison Equal t u = equal t u
comparison Unequal t u = unequal t u
comparison AtLeast t u = at_most u t (pos 0)
comparison Greater t u = at_most u t (negsuc 0)

-- A formula of the specification, as a caller says it of these readings, with these constants for its variables.
abbrev pub formula : Readings → Caller → List ℕ → Form → Symbolic
formula r c vars true_form = always true
formula r c vars false_form = always false
formula r c vars (not_form f) = negated (formula r c vars f)
formula r c vars (and_form f g) = both (formula r c vars f) (formula r c vars g)
formula r c vars (or_form f g) = either (formula r c vars f) (formula r c vars g)
formula r c vars (implies_form f g) = either (negated (formula r c vars f)) (formula r c vars g)
formula r c vars (has_form k es) = r.has k (consts_of c vars es)
formula r c vars (same_form a b) = same_const (const_of c vars a) (const_of c vars b)
formula r c vars (differ_form a b) = negated (same_const (const_of c vars a) (const_of c vars b))
formula r c vars (compare_form t o u) = comparison o (parts_of r c vars t) (parts_of r c vars u)

-- a formula once for each assignment of constants to its variables
abbrev pub instances : Constants → Readings → Caller → List ℕ → Form → List Symbolic
instances z r c vars f = map (λ vs. formula r c vs f) (assignments z vars)
