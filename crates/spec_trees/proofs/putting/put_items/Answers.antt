use Rattle.spec_trees.specs.Form.{item_of}
use Rattle.spec_trees.specs.Spelling.{item}
use Rattle.spec_trees.proofs.Written.{written}
use Rattle.spec_trees.proofs.putting.put_items.Goals as goal

pub items-preserved : goal.items-preserved
items-preserved c = written (λ x. item (item_of x)) c.args.items.now c.items.item-index c.item-item.result c.args.out.now c.items.out c.put_item.new.out c.items-test.true c.item-item.is c.items.invariant c.in_ok-put_item.ensures
