use Rattle.std.proofs.Common.{◌≡◌, ◌-◌, ◌∙◌, ap, arith}
use Rattle.diff_bounds.specs.Cycles.{first_steps}
use Rattle.diff_bounds.proofs.cycle.steps_of.Goals as goal

pub returns : goal.returns
returns c =
    let e : c.loop-right.right - 1 ≡ c.args.count - 1 = omega (arith, c.loop-right.auto.right, c.loop-right.auto.right-end, c.loop-right-test.false) in
    c.loop-right.invariant ∙ ap (first_steps c.args.count) e
