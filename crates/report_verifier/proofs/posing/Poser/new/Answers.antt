use Rattle.report_verifier.proofs.posing.Poser.new.Goals as goal

pub returns : goal.returns
returns c = c.new.ensures c.args.spec.now
