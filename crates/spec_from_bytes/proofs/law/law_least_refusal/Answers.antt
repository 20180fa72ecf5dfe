use Rattle.spec_from_bytes.proofs.Least.{least_refused, faultless_specified}
use Rattle.spec_from_bytes.proofs.law.law_least_refusal.Goals as goal

pub returns-clause-refused : goal.returns-clause-refused
returns-clause-refused c = λ bytes f. least_refused c.law_least_fault.ensures c.law_read_is_written.ensures bytes f

pub returns-clause-specified : goal.returns-clause-specified
returns-clause-specified c = λ bytes t d. faultless_specified c.law_least_fault.ensures c.law_read_is_written.ensures bytes t d
