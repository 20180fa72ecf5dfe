use Rattle.proof_kernel.proofs.States.{fits-cleared}
use Rattle.proof_kernel.proofs.kernel.Kernel.drop_clauses.Goals as goal

pub invariant_of-self-2 : goal.invariant_of-self-2
invariant_of-self-2 c = fits-cleared _ _ c.args.numbers.now c.self.invariant c.in-Ok-drop_all.ensures.ok
