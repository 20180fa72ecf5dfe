-- The ground problem of an obligation, of which the formulas on equal readings of relations are told by tuples.
use Rattle.std.specs.Prelude.{◌≡◌, ◌<◌, ◌≤◌, Result, Ok, Err, IfSome, List, [], ◌∷◌, ◌++◌, length, map}
use Rattle.std.specs.List.{flat_map}
use Rattle.spec_core.specs.Specification.{Specification}
use Rattle.obligation_list.specs.declared.obligation.Obligation.{Obligation}
use Rattle.proof_lines.specs.Problems.{PlainProblem}
use Rattle.ground_problem.specs.Constants.{constants_of}
use Rattle.ground_problem.specs.Problem.{formulas_of, most_formulas}
use Rattle.ground_numbers.specs.Numbered.{Numbered}
use Rattle.ground_numbers.specs.Numbers.{Table}
use Rattle.ground_numbers.specs.Problem.{table_of, numbered_of, problem}
use Rattle.ground_atoms.specs.Calls.{calls_of}
use Rattle.ground_atoms.specs.Formulas.{form_of}
use Rattle.ground_groups.specs.declared.refused.GroundRefused.{GroundRefused}
use Rattle.ground_groups.specs.declared.refused.GroundRefused.TheVariants.{TooMany, Memory}
use Rattle.instances.specs.Ground.{IsGrounded}
use Rattle.lazy_ground.specs.declared.pairs.ReadingPairs.{ReadingPairs}
use Rattle.lazy_ground.specs.declared.grounding.LazyGround.{LazyGround}
use Rattle.lazy_ground.specs.declared.grounding.EitherGround.{EitherGround}
use Rattle.lazy_ground.specs.declared.grounding.EitherGround.TheVariants as either
use Rattle.lazy_ground.specs.Pairs.{pair_forms, AreDifferent, HasAtoms}
use Rattle.lazy_ground.specs.Named.{AllNamed}

-- all formulas that it stands for, in their order
abbrev pub lazy_forms : LazyGround → List Numbered
lazy_forms g =
    map form_of g.front ++ (flat_map (pair_forms g.atoms.table) g.pairs ++ map form_of g.behind)

-- the problem of these formulas
abbrev pub lazy_problem : LazyGround → PlainProblem
lazy_problem g = problem g.atoms.table (lazy_forms g)

-- each relation's tuples are different ones of one length, and its readings have these numbers
abbrev pub ArePairs : Table → List ReadingPairs → Type 0
ArePairs o [] = Unit {0}
ArePairs o (s ∷ more) = (AreDifferent s.tuples × HasAtoms o s) × ArePairs o more

-- It stands for the ground problem, which has no more formulas than are decided: the constants, the calls and the elements are the
-- obligation's, the formulas that the pairs stand for name nothing new, and the entry's formulas are in front.
pub record IsLazyGround (d : Specification) (ob : Obligation) (g : LazyGround) : Type 0 where
  pub few : length (formulas_of d ob) ≤ most_formulas
  pub consts : g.sorts ≡ (constants_of d ob).sorts
  pub calls : g.calls ≡ calls_of d ob
  pub elements : g.elements ≡ (constants_of d ob).elements
  pub table : g.atoms.table ≡ table_of d ob
  pub forms : lazy_forms g ≡ numbered_of d ob
  pub pairs : ArePairs g.atoms.table g.pairs
  pub named : AllNamed g.atoms.table g.pairs
  pub entry : IfSome g.part (λ p. p.size.formulas ≤ length g.front)

-- There is one, whole or lazy, where the list has at most so many formulas, and it has too many where it has more, whatever is left then.
abbrev pub IsGroundEither : Specification → Obligation → Result EitherGround GroundRefused → Type 0
IsGroundEither d ob (Ok (either.Whole g)) = (length (formulas_of d ob) ≤ most_formulas) × IsGrounded d ob g
IsGroundEither d ob (Ok (either.Lazy g)) = IsLazyGround d ob g
IsGroundEither d ob (Ok (either.TooMany k)) = most_formulas < length (formulas_of d ob)
IsGroundEither d ob (Err TooMany) = most_formulas < length (formulas_of d ob)
IsGroundEither d ob (Err Memory) = Unit {0}
