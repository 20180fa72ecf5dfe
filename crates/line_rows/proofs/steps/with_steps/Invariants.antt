use Rattle.std.proofs.Common.{◌≡◌, drop}
use Rattle.line_rows.specs.Steps.{with_steps}
use Rattle.line_rows.proofs.steps.with_steps.Given as goal

abbrev pub invariant-loop-step : goal.invariant-loop-step
invariant-loop-step l = with_steps l.initial.rows.items l.steps ≡ with_steps l.rows.items (drop l.step-index l.steps)
