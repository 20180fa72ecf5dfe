use Rattle.effectors.proofs.FirstBeyond.{is_first, first_is, none_is, is_none}
use Rattle.effectors.proofs.law.law_first_beyond.Goals as goal

pub returns-clause-found : goal.returns-clause-found
returns-clause-found c = λ s b. (is_first s b, first_is s b)

pub returns-clause-none : goal.returns-clause-none
returns-clause-none c = λ s. (none_is s, is_none s)
