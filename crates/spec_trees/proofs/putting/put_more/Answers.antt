use Rattle.spec_trees.specs.Spelling.{signed}
use Rattle.spec_trees.proofs.Written.{written}
use Rattle.spec_trees.proofs.putting.put_more.Goals as goal

pub more-preserved : goal.more-preserved
more-preserved c = written signed c.args.more.now c.more.signed-index c.signed-item.result c.args.out.now c.more.out c.put_signed.new.out c.more-test.true c.signed-item.is c.more.invariant c.in_ok-put_signed.ensures
