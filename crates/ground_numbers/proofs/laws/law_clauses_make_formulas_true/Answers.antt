use Rattle.ground_numbers.proofs.Whole.{clauses_make_formulas_true}
use Rattle.ground_numbers.proofs.laws.law_clauses_make_formulas_true.Goals as goal

pub returns : goal.returns
returns c = λ d ob m t. clauses_make_formulas_true d ob m t
