use Rattle.effectors.proofs.applying.apply.Goals as goal

pub apply_over-requires-clause-spare : goal.apply_over-requires-clause-spare
apply_over-requires-clause-spare c = tt
