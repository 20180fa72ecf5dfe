use Rattle.obligation_list.proofs.Listed.{listed_is_obligation, obligation_is_listed}
use Rattle.obligation_list.proofs.listing.law_obligations.Goals as goal

pub returns-clause-listed : goal.returns-clause-listed
returns-clause-listed c = listed_is_obligation

pub returns-clause-all : goal.returns-clause-all
returns-clause-all c = obligation_is_listed

pub returns-clause-safe : goal.returns-clause-safe
returns-clause-safe c = λ d h ob m. h ob (obligation_is_listed d ob m)
