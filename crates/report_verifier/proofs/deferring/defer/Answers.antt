use Rattle.report_verifier.proofs.Deferred.{deferred_so}
use Rattle.report_verifier.proofs.deferring.defer.Goals as goal

pub returns-clause-taken : goal.returns-clause-taken
returns-clause-taken c = λ t.
    deferred_so c.args.spec.now c.args.judging.now c.in-Some.log c.args.number c.args.line.now c.push.new.self.lines c.in-Some.is c.in_ok-push.ensures.lines (c.if-not-has_room.ensures cc)
