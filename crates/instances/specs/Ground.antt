-- What the ground problem of an obligation is, as a program holds it.
use Rattle.std.specs.Prelude.{◌≡◌, ◌<◌, ◌≤◌, Result, Ok, Err, length, map}
use Rattle.spec_core.specs.Specification.{Specification}
use Rattle.obligation_list.specs.declared.obligation.Obligation.{Obligation}
use Rattle.ground_problem.specs.Constants.{constants_of}
use Rattle.ground_problem.specs.Problem.{formulas_of}
use Rattle.ground_numbers.specs.Problem.{table_of, numbered_of}
use Rattle.ground_atoms.specs.Formulas.{form_of}
use Rattle.ground_atoms.specs.Calls.{calls_of}
use Rattle.ground_problem.specs.Problem.{most_formulas}
use Rattle.instances.specs.declared.grounding.Grounded.{Grounded}
use Rattle.ground_groups.specs.declared.refused.GroundRefused.{GroundRefused}
use Rattle.ground_groups.specs.declared.refused.GroundRefused.TheVariants.{TooMany, Memory}

-- The ground problem: the constants, the calls and the elements of the obligation, its table, and its formulas over that table.
pub record IsGrounded (d : Specification) (ob : Obligation) (g : Grounded) : Type 0 where
  pub consts : g.consts ≡ (constants_of d ob).sorts
  pub calls : g.calls ≡ calls_of d ob
  pub elements : g.elements ≡ (constants_of d ob).elements
  pub table : g.atoms.table ≡ table_of d ob
  pub forms : map form_of g.formulas ≡ numbered_of d ob

-- There is one where the list has at most so many formulas, and it has too many where it has more.
abbrev pub IsGround : Specification → Obligation → Result Grounded GroundRefused → Type 0
IsGround d ob (Ok g) = (length (formulas_of d ob) ≤ most_formulas) × IsGrounded d ob g
IsGround d ob (Err TooMany) = most_formulas < length (formulas_of d ob)
IsGround d ob (Err Memory) = Unit {0}
