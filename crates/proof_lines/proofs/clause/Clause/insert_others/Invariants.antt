use Rattle.std.proofs.Common.{◌≡◌, take}
use Rattle.proof_lines.specs.Clauses.{join, without}
use Rattle.proof_lines.proofs.clause.Clause.insert_others.Given as goal

abbrev pub invariant-loop-x : goal.invariant-loop-x
invariant-loop-x l = l.self ≡ join l.fn.self (without l.lit (take l.x-index l.lits))
