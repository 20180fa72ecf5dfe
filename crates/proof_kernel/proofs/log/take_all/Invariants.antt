use Rattle.std.proofs.Common.{◌≡◌, true, drop}
use Rattle.proof_lines.specs.Problems.{Meaning}
use Rattle.proof_kernel.specs.Rules.{run_from, holds}
use Rattle.proof_kernel.proofs.log.take_all.Given as goal

abbrev pub invariant-loop-i : goal.invariant-loop-i
invariant-loop-i l = (run_from 0 l.initial.kernel l.lines ≡ run_from l.i l.kernel (drop l.i l.lines))
    × ((m : Meaning) → holds m l.initial.kernel ≡ true → holds m l.kernel ≡ true)
