-- When a log refutes a problem.
use Rattle.std.specs.Prelude.{◌≡◌, true, Ok, List}
use Rattle.proof_lines.specs.declared.line.Line.{Line}
use Rattle.proof_lines.specs.Problems.{PlainProblem}
use Rattle.proof_kernel.specs.Rules.{State, run}

-- A log refutes a problem: the kernel accepts its lines there, and an empty clause is among the clauses.
pub record Refutes (p : PlainProblem) (log : List Line) : Type 0 where
  pub state : State
  pub runs : run p log ≡ Ok state
  pub empty : state.empty ≡ true
