use Rattle.executions.proofs.Safety.{converges}
use Rattle.report_verifier.proofs.Same.{report_verdicts, all_verdicts}
use Rattle.report_verifier.proofs.Valid.{each_valid}
use Rattle.report_verifier.proofs.Safe.{all_hold, IsClean-accepted, IsClean}
use Rattle.std.proofs.Common.{subst}
use Rattle.report_lines.specs.declared.head.Tally.{Tally}
use Rattle.report_verifier.proofs.laws.law_accepted_is_safe.Goals as goal

pub returns-clause-safe : goal.returns-clause-safe
returns-clause-safe c = λ d bytes tally ok a e.
    let r = a.report in
    let fit = report_verdicts d r a.bytes_of.can_stand in
    let clean = subst (λ (t : Tally). IsClean t) a.counts (IsClean-accepted tally e) in
    c.law_obligations.ensures.safe d
    (all_hold d r.budget (λ ob log p. c.law_proved_holds.ensures d ob log ok p) r.verdicts (all_verdicts d r a.bytes_of.can_stand) (each_valid d r.version r.budget 3 0 r.verdicts fit a.sound) clean)

pub returns-clause-converges : goal.returns-clause-converges
returns-clause-converges c = λ d bytes tally ok a e. converges d (returns-clause-safe c d bytes tally ok a e)
