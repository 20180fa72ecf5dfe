use Rattle.std.proofs.Common.{◌≡◌, ◌++◌, take}
use Rattle.parser_combinators.specs.Words.{plain, each}
use Rattle.spec_trees.specs.Form.{item_of}
use Rattle.spec_trees.specs.Spelling.{item}
use Rattle.spec_trees.proofs.putting.put_items.Given as goal

abbrev pub invariant-items : goal.invariant-items
invariant-items l = l.out ≡ l.fn.out ++ plain (each (λ x. item (item_of x)) (take l.item-index l.items))
