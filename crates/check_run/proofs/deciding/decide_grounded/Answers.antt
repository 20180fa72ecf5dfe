use Rattle.std.proofs.Common.{◌≡◌, true, false, subst}
use Rattle.proof_lines.specs.Problems.{PlainProblem}
use Rattle.sat_core.specs.Answers.{IsAnswer}
use Rattle.diff_bounds.specs.Differences.{problem_fits}
use Rattle.check_run.proofs.deciding.decide_grounded.Goals as goal

pub verdict_of-requires-clause-fitting : goal.verdict_of-requires-clause-fitting
verdict_of-requires-clause-fitting c =
    subst (λ (p : PlainProblem). problem_fits p ≡ true → IsAnswer false false p c.args.question.now.budget c.search_for-answer.result) c.in_ok-problem.ensures c.search_for-answer.ensures.fitting
