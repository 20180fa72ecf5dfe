use Rattle.ground_numbers.proofs.GoodRows.{problem-good}
use Rattle.check_run.proofs.Verdicts.{Refutes-none}
use Rattle.check_run.proofs.laws.law_good_verdicts.Goals as goal

pub returns-clause-proved : goal.returns-clause-proved
returns-clause-proved c = λ d budget ob log t g.
    c.law_refuted_problem_holds.ensures d ob t (Refutes-none d ob log (c.law_obligation_fits.ensures.problem d ob) (problem-good d ob (c.law_obligation_fits.ensures.numbers d ob t)) g.refutes)
