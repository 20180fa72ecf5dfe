use Rattle.std.proofs.Common.{length}
use Rattle.ground_atoms.proofs.rows.+add_terms.Given as goal

abbrev pub decreases-add_terms : goal.decreases-add_terms
decreases-add_terms l = length l.parts.now
