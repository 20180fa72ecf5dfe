use Rattle.std.proofs.Common.{subst}
use Rattle.suggest.specs.Answers.{IsFound}
use Rattle.suggest.specs.declared.answer.Found.{Found}
use Rattle.suggest.proofs.Findings.{before_proved, before_undecided, behind_undecided}
use Rattle.suggest.proofs.finding.with_undecided.Goals as goal

pub returns-in-Proved-clause-found : goal.returns-in-Proved-clause-found
returns-in-Proved-clause-found c = λ d budget obs g h. before_proved d budget c.args.ob c.args.cause obs g (subst (λ (f : Found). IsFound d budget obs f) c.in-Proved.is h)

pub returns-in-Refuted-clause-found : goal.returns-in-Refuted-clause-found
returns-in-Refuted-clause-found c = λ d budget obs g h.
    behind_undecided d budget c.args.ob c.args.cause obs c.in-Refuted.other c.in-Refuted.witness g (subst (λ (f : Found). IsFound d budget obs f) c.in-Refuted.is h)

pub returns-in-Undecided-clause-found : goal.returns-in-Undecided-clause-found
returns-in-Undecided-clause-found c = λ d budget obs g h.
    before_undecided d budget c.args.ob c.args.cause obs c.in-Undecided._other c.in-Undecided.later g (subst (λ (f : Found). IsFound d budget obs f) c.in-Undecided.is h)
