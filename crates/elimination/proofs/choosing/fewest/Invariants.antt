use Rattle.std.proofs.Common.{◌≡◌, true}
use Rattle.proof_lines.specs.Numbers.{stands_in}
use Rattle.elimination.proofs.choosing.fewest.Given as goal

abbrev pub invariant-loop-other : goal.invariant-loop-other
invariant-loop-other l = stands_in l.left l.place ≡ true
