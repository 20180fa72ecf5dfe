use Rattle.std.proofs.Common.{[], List, ◌++◌, drop, ◌+◌, sym, ◌∙◌, ap}
use Rattle.items.specs.Joined.{joined}
use Rattle.items.proofs.Joining.{next_block}
use Rattle.items.proofs.shared_list.items_of.Goals as goal

pub loop-block-preserved : goal.loop-block-preserved
loop-block-preserved g c =
    let blocks = c.args.blocks.now in
    let i = c.loop-block.block-index in
    let items = c.loop-block.items.items in
    next_block blocks i c.block-item.result (joined blocks []) items c.loop-block-test.true c.block-item.is c.loop-block.invariant
    ∙ ap (λ l. l ++ joined (drop (i + 1) blocks) []) (sym (c.in_ok-extend_from_slice.ensures.items ∙ ap (λ l. items ++ l) c.as_slice.ensures))
