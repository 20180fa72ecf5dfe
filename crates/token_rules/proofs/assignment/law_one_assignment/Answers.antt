use Rattle.token_rules.proofs.Assigning.{one_assignment-found, one_assignment-map}
use Rattle.token_rules.proofs.assignment.law_one_assignment.Goals as goal

pub returns-clause-found : goal.returns-clause-found
returns-clause-found c = one_assignment-found

pub returns-clause-only : goal.returns-clause-only
returns-clause-only c = one_assignment-map
