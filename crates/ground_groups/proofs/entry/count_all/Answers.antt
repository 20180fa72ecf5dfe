use Rattle.std.proofs.Common.{◌+◌, ◌≤◌, arith}
use Rattle.ground_groups.proofs.Lists.{count_next}
use Rattle.ground_groups.proofs.entry.count_all.Goals as goal

pub loop-invariant-preserved : goal.loop-invariant-preserved
loop-invariant-preserved c =
    let n = c.in_ok-more.more in
    let s : c.saturating_add-count.result ≤ c.loop-invariant.count + n = omega (arith, c.saturating_add-count.ensures) in
    count_next _ c.args.invariants.now c.loop-invariant.invariant-index c.invariant-item.result c.loop-invariant-test.true c.invariant-item.is _ _ _ _ c.loop-invariant.invariant c.in_ok-more.ensures s
