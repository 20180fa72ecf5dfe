use Rattle.std.proofs.Common.{◌≡◌, take}
use Rattle.proof_lines.proofs.problem.copy_atoms.Given as goal

abbrev pub invariant-loop-atom : goal.invariant-loop-atom
invariant-loop-atom l = l.out.items ≡ take l.atom-index l.atoms
