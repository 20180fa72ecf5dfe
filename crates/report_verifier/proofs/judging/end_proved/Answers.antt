use Rattle.std.proofs.Common.{◌≡◌, ◌+◌, length, Some, None, sym, arith}
use Rattle.report_verifier.specs.declared.judgement.Judgement.{Judgement}
use Rattle.report_verifier.specs.declared.deferring.DeferredLog.{DeferredLog}
use Rattle.proof_report.specs.Events.{with_proved}
use Rattle.report_verifier.proofs.Deferred.{proved_so}
use Rattle.report_verifier.proofs.judging.end_proved.Goals as goal

pub returns-clause-ended : goal.returns-clause-ended
returns-clause-ended c = λ budget.
    let j : Judgement = c.args.judging.now.judgement in
    let log : DeferredLog = c.in-Some.log in
    let there : c.args.judging.now.deferred ≡ Some log = sym c.in-Some.ensures.value in
    let tally : c.in_ok-judging.field-0 ≡ with_proved j.tally = c.in_ok-judging.ensures in
    let many : c.in-Some-checked_add.log ≡ j.log + length log.lines =
    let a = c.in-Some-checked_add.ensures in let b = c.in-Ok.ensures in let l = c.len-many.ensures in omega (arith, a, b, l) in
    proved_so c.args.spec.now budget c.args.judging.now log _ there c.requires.refuted
    (λ i. record { tally = tally i; line = j.line; many = j.many; kernel = None; log = many i; fault = j.fault })
