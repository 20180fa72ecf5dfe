use Rattle.std.proofs.Common.{◌≡◌, [], ◌++◌, drop}
use Rattle.items.specs.Joined.{joined}
use Rattle.items.proofs.shared_list.items_of.Given as goal

-- all are those added so far, and those of the blocks from here on
abbrev pub invariant-loop-block : goal.invariant-loop-block
invariant-loop-block g l = joined l.blocks [] ≡ l.items.items ++ joined (drop l.block-index l.blocks) []
