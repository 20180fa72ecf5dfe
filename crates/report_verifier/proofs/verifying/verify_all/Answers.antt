use Rattle.report_verifier.proofs.FedLines.{not_told}
use Rattle.report_verifier.proofs.verifying.verify_all.Goals as goal

pub returns-in_default-clause-verified : goal.returns-in_default-clause-verified
returns-in_default-clause-verified g c = (not_told c.args.spec.now (g.E.Source.left c.args.report.now)).0

pub returns-clause-verified : goal.returns-clause-verified
returns-clause-verified g c = c.verify_lines-answer.ensures.verified c.args.spec.now c.well_formed-2.ensures c.in-Ok.ensures
