use Rattle.ground_numbers.proofs.Summed.{row_of-is, row_of-some}
use Rattle.ground_numbers.proofs.laws.law_row_of_terms.Goals as goal

pub returns-clause-terms : goal.returns-clause-terms
returns-clause-terms c = λ ts bound row h. row_of-some ts bound row h

pub returns-clause-in_range : goal.returns-clause-in_range
returns-clause-in_range c = λ ts bound l. row_of-is ts bound l
