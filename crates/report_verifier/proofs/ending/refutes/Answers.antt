use Rattle.report_verifier.proofs.Same.{refutes_tested}
use Rattle.report_verifier.proofs.ending.refutes.Goals as goal

pub returns : goal.returns
returns c = refutes_tested c.args.spec.now c.args.ob.now c.args.witness.now c.breaks.result c.breaks.ensures
