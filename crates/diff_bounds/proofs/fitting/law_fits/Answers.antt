use Rattle.diff_bounds.proofs.FittingLemmas.{rows-taken}
use Rattle.diff_bounds.proofs.fitting.law_fits.Goals as goal

pub returns : goal.returns
returns c = λ p lits rows f e. rows-taken p.ints p.atoms lits rows f e
