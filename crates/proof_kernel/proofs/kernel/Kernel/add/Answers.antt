use Rattle.proof_kernel.proofs.Lines.{taken-sound}
use Rattle.proof_kernel.proofs.kernel.Kernel.add.Goals as goal

pub returns-clause-sound : goal.returns-clause-sound
returns-clause-sound c = taken-sound c.args.self.now c.args.line.now c.take.new.self c.take.result c.law_fits.ensures c.take.ensures.exact
