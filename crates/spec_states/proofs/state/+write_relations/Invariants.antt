use Rattle.std.proofs.Common.{length}
use Rattle.spec_states.proofs.state.+write_relations.Given as goal

abbrev pub decreases-write_relations : goal.decreases-write_relations
decreases-write_relations l = length l.relations.now
