-- What a round of a search over some clauses of a problem comes to.
use Rattle.std.specs.Prelude.{ℕ, Bool}
use Rattle.proof_lines.specs.Problems.{PlainProblem}
use Rattle.sat_core.specs.declared.answer.Answer.{Answer}
use Rattle.sat_core.specs.Answers.{IsAnswer}
use Rattle.needed_clauses.specs.declared.searching.Round.{Round}
use Rattle.needed_clauses.specs.declared.searching.Round.TheVariants.{Answered, More, Whole}

-- an answer that stands whatever the solver of rows may do
abbrev pub IsAnsweredByAny : PlainProblem → ℕ → Answer → Type 0
IsAnsweredByAny p budget answer = (split stop : Bool) → IsAnswer split stop p budget answer

-- where a round has an answer, it is one to the whole problem
abbrev pub IsRound : Round → PlainProblem → ℕ → Type 0
IsRound (Answered answer) p budget = IsAnsweredByAny p budget answer
IsRound More p budget = Unit {0}
IsRound Whole p budget = Unit {0}
