use Rattle.std.proofs.Common.{◌≡◌, length, map}
use Rattle.spec_trees.specs.Form.{item_of}
use Rattle.spec_reader.specs.Reading.{items_at}
use Rattle.parser_combinators.proofs.Loop.{with_front}
use Rattle.spec_reader.proofs.item.items.Given as goal

abbrev pub invariant-items : goal.invariant-items
invariant-items l = with_front (map item_of l.items) (items_at l.version l.depth l.rest) ≡ items_at l.version l.depth l.fn.tokens

abbrev pub decreases-items : goal.decreases-items
decreases-items l = length l.rest
