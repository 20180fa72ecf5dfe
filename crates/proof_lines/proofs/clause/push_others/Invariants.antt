use Rattle.std.proofs.Common.{◌≡◌, ◌++◌, take}
use Rattle.proof_lines.specs.Clauses.{without}
use Rattle.proof_lines.proofs.clause.push_others.Given as goal

abbrev pub invariant-loop-x : goal.invariant-loop-x
invariant-loop-x l = l.out ≡ l.fn.out ++ without l.lit (take l.x-index l.lits)
