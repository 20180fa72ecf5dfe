use Rattle.conflict_variants.proofs.WellFormed.{bare_well_formed, keyed_well_formed}
use Rattle.conflict_variants.proofs.laws.law_made_are_well_formed.Goals as goal

pub returns-clause-bare : goal.returns-clause-bare
returns-clause-bare c = λ d h. bare_well_formed d h

pub returns-clause-keyed : goal.returns-clause-keyed
returns-clause-keyed c = λ d a p b q h can. keyed_well_formed d a p b q h can
