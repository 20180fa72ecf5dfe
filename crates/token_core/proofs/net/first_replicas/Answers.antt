use Rattle.std.specs.Prelude.{None}
use Rattle.std.proofs.Common.{◌+◌, sym, subst, arith}
use Rattle.token_core.specs.declared.replica.Replica.{Replica}
use Rattle.token_core.specs.Fields.{IsFirst}
use Rattle.token_core.proofs.First.{new_first, more_first}
use Rattle.token_core.proofs.net.first_replicas.Goals as goal

pub loop-number-preserved : goal.loop-number-preserved
loop-number-preserved g c =
    let d = g.R.Runner.specification c.args.runner.now in
    let w = g.R.Runner.setting c.args.runner.now in
    let n = c.loop-number.number in
    let at : Replica = record { node = c.in_ok-node.node; taken = c.new-in-loop-number.result; front = c.new-in-loop-number-2.result; spare = None } in (
      subst (IsFirst d w (n + 1)) (sym c.in_ok-push.ensures.items) (more_first d w n c.loop-number.replicas.items at c.loop-number.invariant.0 (new_first d w n at c.in_ok-node.ensures.node c.new-in-loop-number.ensures.items) (record { state = c.in_ok-node.ensures.fits; spare = tt })),
      omega (arith, c.loop-number-test.true),
    )
