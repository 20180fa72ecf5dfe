use Rattle.std.proofs.Common.{◌≡◌, take}
use Rattle.items.proofs.shared_list.share_blocks.Given as goal

-- the blocks so far
abbrev pub invariant-loop-block : goal.invariant-loop-block
invariant-loop-block g l = l.copies.items ≡ take l.block-index l.blocks
