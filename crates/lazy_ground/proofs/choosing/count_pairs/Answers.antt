use Rattle.lazy_ground.proofs.Counts.{pairs_many}
use Rattle.lazy_ground.proofs.choosing.count_pairs.Goals as goal

pub returns-then-tuples-gt-MOST_TUPLES-clause-count : goal.returns-then-tuples-gt-MOST_TUPLES-clause-count
returns-then-tuples-gt-MOST_TUPLES-clause-count c = pairs_many c.args.tuples c.if-tuples-gt-MOST_TUPLES.true
