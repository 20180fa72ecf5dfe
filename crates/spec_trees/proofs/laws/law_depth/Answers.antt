use Rattle.spec_trees.proofs.Deep.{fits_deep, deep_fits}
use Rattle.spec_trees.proofs.laws.law_depth.Goals as goal

pub returns : goal.returns
returns c = λ v f. (fits_deep v 199 f, λ h. deep_fits v 199 f h.0 h.1)
