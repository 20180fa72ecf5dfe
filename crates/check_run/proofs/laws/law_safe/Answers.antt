use Rattle.obligation_list.specs.Obligations.{obligations_of}
use Rattle.executions.proofs.Safety.{converges}
use Rattle.proof_report.specs.Events.{no_verdicts}
use Rattle.check_run.proofs.Verdicts.{all_hold, IsClean-accepted}
use Rattle.check_run.specs.Reports.{tally_of}
use Rattle.check_run.proofs.laws.law_safe.Goals as goal

pub returns-clause-safe : goal.returns-clause-safe
returns-clause-safe c = λ d budget vs t g e.
    c.law_obligations.ensures.safe d (all_hold d budget (λ ob log g. c.law_good_verdicts.ensures.proved d budget ob log t g) (obligations_of d) vs no_verdicts g (IsClean-accepted (tally_of vs) e))

pub returns-clause-converges : goal.returns-clause-converges
returns-clause-converges c = λ d budget vs t g e. converges d (returns-clause-safe c d budget vs t g e)
