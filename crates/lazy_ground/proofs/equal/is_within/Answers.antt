use Rattle.lazy_ground.proofs.Loops.{not_fitting}
use Rattle.lazy_ground.proofs.equal.is_within.Goals as goal

pub returns-then-columns-tuple : goal.returns-then-columns-tuple
returns-then-columns-tuple c = not_fitting c.args.columns.now c.args.tuple.now c.if-columns-tuple.true
