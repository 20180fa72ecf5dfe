use Rattle.std.proofs.Common.{arith}
use Rattle.effectors.proofs.Sized.{counters_sized}
use Rattle.effectors.proofs.writing.write_key.Goals as goal

pub set_count-requires-clause-counter : goal.set_count-requires-clause-counter
set_count-requires-clause-counter g c = let e = counters_sized c.args.spec.now c.args.world.now c.args.new.now c.requires.new in let lt = c.requires.counter in omega arith
