use Rattle.std.proofs.Common.{arith}
use Rattle.effectors.proofs.Sized.{relations_sized}
use Rattle.effectors.proofs.writing.write_tuple.Goals as goal

pub set_has-requires : goal.set_has-requires
set_has-requires g c = let e = relations_sized c.args.spec.now c.args.world.now c.args.new.now c.requires.new in let lt = c.requires.relation in omega arith
