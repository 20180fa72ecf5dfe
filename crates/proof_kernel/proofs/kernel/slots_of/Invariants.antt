use Rattle.std.proofs.Common.{◌≡◌, map, take, Some}
use Rattle.proof_kernel.proofs.kernel.slots_of.Given as goal

abbrev pub invariant-loop-clause : goal.invariant-loop-clause
invariant-loop-clause l = l.slots ≡ map (λ c. Some c) (take l.clause-index l.clauses)
