use Rattle.std.proofs.Common.{length}
use Rattle.spec_states.proofs.state.+tuples_fit.Given as goal

abbrev pub decreases-tuples_fit : goal.decreases-tuples_fit
decreases-tuples_fit l = length l.relations.now
