-- The solver of rows asked before all atoms have values: what is known of the rows that it is given, and of those that it refutes.
use Rattle.std.specs.Prelude.{◌≡◌, ℕ, true, List, Ok}
use Rattle.std.specs.List.{list_all}
use Rattle.lin_rows.specs.Rows.{Row}
use Rattle.proof_lines.specs.declared.clause.Lit.{Lit}
use Rattle.proof_lines.specs.declared.problem.AtomKind.{AtomKind}
use Rattle.proof_lines.specs.declared.line.RowStep.{RowStep}
use Rattle.proof_lines.specs.declared.line.Line.TheVariants.{Farkas}
use Rattle.proof_lines.specs.Clauses.{negations}
use Rattle.proof_lines.specs.Problems.{PlainProblem}
use Rattle.proof_kernel.specs.Rules.{next}
use Rattle.sat_core.specs.declared.trail.Entry.{Entry}
use Rattle.sat_core.specs.Trails.{in_trail}
use Rattle.sat_core.specs.Forcing.{are_plain}
use Rattle.sat_core.specs.SearchLogs.{standing, with_clause}
use Rattle.sat_core.specs.Answers.{AreRowsOf}
use Rattle.watched_search.specs.declared.early.Said.{Said}
use Rattle.watched_search.specs.declared.early.Said.TheVariants.{Model, Clash, Nothing}

-- some literals of a trail, which need not be all, and the row that each stands for
pub record AreHeld (atoms : List AtomKind) (t : List Entry) (lits : List Lit)
    (rows : List Row) : Type 0 where
  pub stand : AreRowsOf atoms lits rows
  pub in_it : list_all (in_trail t) lits ≡ true

-- CLASH: literals of a trail over atoms with rows, and steps with which the Farkas line over them keeps its rule
pub record IsClash (q : PlainProblem) (t : List Entry) (used : List Lit)
    (steps : List RowStep) : Type 0 where
  pub in_it : list_all (in_trail t) used ≡ true
  pub refuted : (given : ℕ) → next (standing given q) (Farkas used steps)
      ≡ Ok (standing given (with_clause q (negations used)))
  pub with_rows : are_plain q.atoms ≡ true → ⊥

-- what a solver says of rows of a trail. Nothing is concluded from numbers: they help to decide
abbrev pub IsSaid : Said → PlainProblem → List Entry → Type 0
IsSaid (Model numbers) q t = Unit {0}
IsSaid (Clash c) q t = IsClash q t c.used c.steps
IsSaid Nothing q t = Unit {0}
