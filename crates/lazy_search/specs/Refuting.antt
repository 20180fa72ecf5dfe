-- What is answered of a lazy ground problem, and what is known of its sizes and of the chosen clauses.
use Rattle.std.specs.Prelude.{◌≡◌, ℕ, ◌≤◌, true, Ok, List, ◌++◌, length, map, replicate}
use Rattle.spec_core.specs.Specification.{Specification}
use Rattle.obligation_list.specs.declared.obligation.Obligation.{Obligation}
use Rattle.obligation_list.specs.declared.witness.Witness.{Witness}
use Rattle.obligation_list.specs.Refuting.{IsRefutation}
use Rattle.proof_lines.specs.declared.line.Line.{Line}
use Rattle.proof_lines.specs.declared.problem.AtomKind.{AtomKind}
use Rattle.proof_lines.specs.declared.problem.AtomKind.TheVariants.{Plain}
use Rattle.proof_lines.specs.Problems.{PlainProblem}
use Rattle.proof_kernel.specs.Rules.{State, run}
use Rattle.ground_numbers.specs.Numbers.{Table}
use Rattle.ground_numbers.specs.Problem.{kind_of}
use Rattle.lazy_ground.specs.declared.grounding.LazyGround.{LazyGround}
use Rattle.lazy_ground.specs.Lazy.{lazy_problem, ArePairs}
use Rattle.lazy_ground.specs.Kept.{HasClauses}
use Rattle.lazy_search.specs.declared.choosing.Chosen.{Chosen}
use Rattle.lazy_search.specs.Chosen.{AreAt, IsLayout}
use Rattle.lazy_search.specs.declared.counting.Sizes.{Sizes}
use Rattle.lazy_search.specs.declared.measured.Measured.{Measured}
use Rattle.lazy_search.specs.declared.searching.LazyAnswer.{LazyAnswer}
use Rattle.lazy_search.specs.declared.searching.LazyAnswer.TheVariants.{Refuted, Broken, Satisfiable, Unknown}
use Rattle.lazy_search.specs.declared.searching.Step.{Step}
use Rattle.lazy_search.specs.declared.searching.Step.TheVariants.{Answered, MoreClauses}
use Rattle.lazy_search.specs.declared.trying.Aim.{Aim}

-- A log of at most so many lines shows that a problem has no interpretation: the kernel accepts its lines, and an empty clause is among
-- the clauses.
pub record RefutesWithin (p : PlainProblem) (budget : ℕ) (log : List Line) : Type 0 where
  pub state : State
  pub runs : run p log ≡ Ok state
  pub empty : state.empty ≡ true
  pub within : length log ≤ budget

-- the atoms of a table, and so many that name parts
abbrev pub atoms_with : Table → ℕ → List AtomKind
atoms_with o names = map kind_of o.atoms ++ replicate names Plain

-- so many atoms and clauses the whole problem has; the first of those that name parts has this number, and there are so many of these
pub record AreSizes (g : LazyGround) (sizes : Sizes) : Type 0 where
  pub first : sizes.first ≡ length g.atoms.table.atoms
  pub atoms : sizes.atoms ≡ length (lazy_problem g).atoms
  pub names : (lazy_problem g).atoms ≡ atoms_with g.atoms.table sizes.names
  pub clauses : sizes.clauses ≡ length (lazy_problem g).clauses

-- A problem with its sizes and its layout. Its pairs have their numbers, and the clauses of the entry that are at hand are the entry's.
pub record IsMeasured (m : Measured) : Type 0 where
  pub pairs : ArePairs m.ground.now.atoms.table m.ground.now.pairs
  pub clauses : HasClauses m.ground.now
  pub sizes : AreSizes m.ground.now m.sizes.now
  pub layout : IsLayout m.ground.now (length m.ground.now.atoms.table.atoms) m.layout.now

-- the chosen clauses are those of the whole problem that have these numbers
abbrev pub AreOf : LazyGround → Chosen → Type 0
AreOf g c = AreAt (lazy_problem g).clauses c.clauses c.numbers.items

-- a witness breaks an obligation
abbrev pub IsBroken : Specification → Obligation → Witness → Type 0
IsBroken d ob w = IsRefutation d ob w.world w.state w.calls w.elements

-- a log that is answered is one of the problem, and a witness breaks the obligation
abbrev pub IsLazyAnswer : Specification → Obligation → PlainProblem → ℕ → LazyAnswer → Type 0
IsLazyAnswer d ob p budget (Refuted log) = RefutesWithin p budget log
IsLazyAnswer d ob p budget (Broken w) = IsBroken d ob w
IsLazyAnswer d ob p budget Satisfiable = Unit {0}
IsLazyAnswer d ob p budget Unknown = Unit {0}

-- what a round answers is an answer
abbrev pub IsStep : Specification → Obligation → LazyGround → ℕ → Step → Type 0
IsStep d ob g budget (Answered answer) = IsLazyAnswer d ob (lazy_problem g) budget answer
IsStep d ob g budget (MoreClauses more) = Unit {0}

-- it is an answer to this aim
abbrev pub IsLazyAnswerTo : Aim → LazyGround → LazyAnswer → Type 0
IsLazyAnswerTo aim g answer =
    IsLazyAnswer aim.spec.now aim.ob.now (lazy_problem g) aim.budget answer

-- it is a step to this aim
abbrev pub IsStepTo : Aim → LazyGround → Step → Type 0
IsStepTo aim g step = IsStep aim.spec.now aim.ob.now g aim.budget step
