use Rattle.proof_kernel.proofs.atoms.make_room.Goals as goal

pub returns-clause-same : goal.returns-clause-same
returns-clause-same c = λ p k. c.reserve.ensures.keys.2 (p, k)
