use Rattle.line_rows.specs.Kept.{StepsEnd}
use Rattle.line_rows.proofs.kept.raise_steps.Given as goal

abbrev pub invariant-loop-i : goal.invariant-loop-i
invariant-loop-i l = StepsEnd l.steps l.i l.ends
