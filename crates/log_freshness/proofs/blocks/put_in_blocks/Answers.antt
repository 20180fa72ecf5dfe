use Rattle.std.proofs.Common.{◌<◌, ℕ, refl, subst}
use Rattle.std.proofs.lemmas.Result.{on_ok_weaker}
use Rattle.log_freshness.specs.declared.blocks.Blocks.{Blocks}
use Rattle.log_freshness.specs.Blocks.{MovesLast}
use Rattle.log_freshness.proofs.Masks.{puts-room, puts-moved}
use Rattle.log_freshness.proofs.blocks.put_in_blocks.Goals as goal

pub returns-then-len-lt-PLACES : goal.returns-then-len-lt-PLACES
returns-then-len-lt-PLACES c =
    let middle : Blocks = record { full = c.args.blocks.now.full; last = c.put_in_block.new.block } in
    puts-room c.args.count c.args.lits.now c.args.number c.args.blocks.now middle c.requires.room (subst (λ (z : ℕ). z < 128) c.len.ensures c.if-len-lt-PLACES.true) refl c.in_ok-put_in_block.ensures

pub returns : goal.returns
returns c =
    let middle : Blocks = record { full = c.args.blocks.now.full; last = c.put_in_block.new.block } in
    on_ok_weaker c.move_last.result
    (λ (p : MovesLast c.args.count middle c.move_last.new.blocks).
    puts-moved c.args.count c.args.lits.now c.args.number c.args.blocks.now middle c.move_last.new.blocks c.requires.room refl c.in_ok-put_in_block.ensures p)
    c.move_last.ensures
