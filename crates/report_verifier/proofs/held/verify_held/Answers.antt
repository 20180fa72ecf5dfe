use Rattle.report_verifier.proofs.held.verify_held.Goals as goal

pub returns-clause-verified : goal.returns-clause-verified
returns-clause-verified c = c.verify_bytes-answer.ensures.verified c.args.spec.now c.well_formed-2.ensures c.in-Ok.ensures
