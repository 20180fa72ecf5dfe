use Rattle.implicants.proofs.Added.{none_chosen}
use Rattle.implicants.proofs.choosing.choose.Goals as goal

pub add_beyond-requires : goal.add_beyond-requires
add_beyond-requires c = none_chosen c.args.trail.now c.new-chosen.result c.new-chosen.ensures.lits c.new-chosen.ensures.signs
