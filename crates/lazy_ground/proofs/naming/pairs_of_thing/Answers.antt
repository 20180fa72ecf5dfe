use Rattle.std.proofs.Common.{map}
use Rattle.ground_atoms.specs.Symbols.{reading_of}
use Rattle.lazy_ground.proofs.Loops.{pairs_of_if}
use Rattle.lazy_ground.proofs.naming.pairs_of_thing.Goals as goal

pub returns : goal.returns
returns c =
    pairs_of_if c.args.atoms.now.table (map reading_of c.args.readings.now) c.args.thing c.in-Relation.relation c.in_ok-tuples.tuples c.in-Relation.is c.in_ok-tuples.ensures c.pairs_at.result c.pairs_at.ensures
