use Rattle.lazy_ground.proofs.NamedAfter.{pair_if}
use Rattle.lazy_ground.proofs.numbering.number_pair.Goals as goal

pub returns : goal.returns
returns c = pair_if c.number_places.result c.args.atoms.now c.number_places.new.atoms c.args.relation c.args.left.now c.args.right.now c.requires.left c.requires.right c.number_places.ensures
