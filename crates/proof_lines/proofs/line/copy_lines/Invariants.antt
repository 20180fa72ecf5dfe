use Rattle.std.proofs.Common.{◌≡◌, take}
use Rattle.proof_lines.proofs.line.copy_lines.Given as goal

abbrev pub invariant-loop-line : goal.invariant-loop-line
invariant-loop-line l = l.out ≡ take l.line-index l.lines
