use Rattle.report_verifier.specs.Deferring.{judgement_of}
use Rattle.report_verifier.proofs.Lines.{fed_so}
use Rattle.report_verifier.proofs.verifier.Verifier.feed_any.Goals as goal

pub returns-in-Ok : goal.returns-in-Ok
returns-in-Ok c =
    fed_so c.args.self.now c.self.inside.reader c.feed.new.self (judgement_of c.self.inside.spec.now c.self.inside.judging) c.self.inside.failed c.args.text.now c.in-Ok.fed c.take-taken.new.self c.take-taken.result c.self.view_is c.if-self.false c.in-Ok.ensures c.take-taken.ensures
