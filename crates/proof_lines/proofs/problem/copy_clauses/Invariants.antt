use Rattle.std.proofs.Common.{◌≡◌, take}
use Rattle.proof_lines.proofs.problem.copy_clauses.Given as goal

abbrev pub invariant-loop-clause : goal.invariant-loop-clause
invariant-loop-clause l = l.out.items ≡ take l.clause-index l.clauses
