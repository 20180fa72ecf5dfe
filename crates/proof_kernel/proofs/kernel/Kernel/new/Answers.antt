use Rattle.proof_kernel.proofs.Lines.{begun-sound}
use Rattle.proof_kernel.proofs.kernel.Kernel.new.Goals as goal

pub returns-clause-sound : goal.returns-clause-sound
returns-clause-sound c = begun-sound c.args.problem c.begin.result c.begin.ensures
