use Rattle.std.proofs.Common.{◌≡◌, ◌-◌}
use Rattle.diff_bounds.specs.Cycles.{first_steps}
use Rattle.diff_bounds.proofs.cycle.steps_of.Given as goal

abbrev pub invariant-loop-right : goal.invariant-loop-right
invariant-loop-right l = l.steps ≡ first_steps l.count (l.right - 1)
