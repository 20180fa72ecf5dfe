use Rattle.executions.specs.Convergence.{system_of}
use Rattle.executions.proofs.Closed.{order_is_closed, closed_has_order}
use Rattle.executions.proofs.law.law_closed_sets.Goals as goal

pub returns-clause-closed : goal.returns-clause-closed
returns-clause-closed c = λ events order is. order_is_closed events order is

pub returns-clause-has_order : goal.returns-clause-has_order
returns-clause-has_order c = λ d w events run set is. closed_has_order (system_of d w) events run set is
