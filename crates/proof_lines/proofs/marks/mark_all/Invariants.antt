use Rattle.std.proofs.Common.{take}
use Rattle.proof_lines.specs.Marks.{HasMarks}
use Rattle.proof_lines.proofs.marks.mark_all.Given as goal

abbrev pub invariant-loop-lit : goal.invariant-loop-lit
invariant-loop-lit l = HasMarks l.marks (take l.lit-index l.lits)
