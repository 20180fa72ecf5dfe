use Rattle.ground_numbers.proofs.Whole.{table_placed, numbered_below, problem_fits}
use Rattle.ground_numbers.proofs.Small.{table-small}
use Rattle.ground_numbers.proofs.laws.law_obligation_fits.Goals as goal

pub returns-clause-rows : goal.returns-clause-rows
returns-clause-rows c = λ d ob. table_placed d ob

pub returns-clause-formulas : goal.returns-clause-formulas
returns-clause-formulas c = λ d ob. numbered_below d ob

pub returns-clause-problem : goal.returns-clause-problem
returns-clause-problem c = λ d ob. problem_fits d ob

pub returns-clause-numbers : goal.returns-clause-numbers
returns-clause-numbers c = λ d ob t. table-small d ob t
