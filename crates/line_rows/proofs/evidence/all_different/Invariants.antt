use Rattle.std.proofs.Common.{◌≡◌, drop}
use Rattle.line_rows.specs.Evidence.{all_different}
use Rattle.line_rows.proofs.evidence.all_different.Given as goal

abbrev pub invariant-loop-i : goal.invariant-loop-i
invariant-loop-i l = all_different l.rows ≡ all_different (drop l.i l.rows)
