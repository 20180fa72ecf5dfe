use Rattle.ground_numbers.specs.Problem.{problem_of}
use Rattle.proof_kernel.proofs.Runs.{run-refutes}
use Rattle.ground_numbers.proofs.GoodRows.{problem-good}
use Rattle.report_verifier.proofs.laws.law_proved_holds.Goals as goal

pub returns : goal.returns
returns c = λ d ob log ok p.
    c.law_refuted_problem_holds.ensures d ob ok (run-refutes (problem_of d ob) log p.state (c.law_obligation_fits.ensures.problem d ob) (problem-good d ob (c.law_obligation_fits.ensures.numbers d ob ok)) p.leads p.empty)
