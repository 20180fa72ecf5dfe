use Rattle.lazy_ground.proofs.Entries.{kept_clauses}
use Rattle.lazy_ground.proofs.grounding.ground_lazily_from.Goals as goal

pub returns-clause-clauses : goal.returns-clause-clauses
returns-clause-clauses c = kept_clauses c.args.spec.now c.as_chosen-result.result c.as_chosen-result.ensures.kept
