use Rattle.std.proofs.Common.{◌≡◌, drop}
use Rattle.std.specs.List.{list_any}
use Rattle.log_freshness.specs.Blocks.{block_within, AllFit}
use Rattle.log_freshness.proofs.blocks.any_in_full.Given as goal

abbrev pub invariant-loop-block : goal.invariant-loop-block
invariant-loop-block l = (list_any (block_within l.look.slots.now l.look.lits.now) l.full ≡ list_any (block_within l.look.slots.now l.look.lits.now) (drop l.block-index l.full))
    × AllFit l.look.count l.look.slots.now (drop l.block-index l.full)
