use Rattle.std.proofs.Common.{ap}
use Rattle.ground_atoms.specs.Making.{MadeList}
use Rattle.ground_atoms.proofs.Numbering.{make_all-is, readings_after-made}
use Rattle.ground_atoms.proofs.laws.law_making_is_numbering.Goals as goal

pub returns-clause-table : goal.returns-clause-table
returns-clause-table c = λ done k fs. ap (λ (m : MadeList). m.known.table) (make_all-is done k fs)

pub returns-clause-forms : goal.returns-clause-forms
returns-clause-forms c = λ done k fs. ap (λ (m : MadeList). m.forms) (make_all-is done k fs)

pub returns-clause-readings : goal.returns-clause-readings
returns-clause-readings c = λ d ob done n list. readings_after-made d ob done n list
