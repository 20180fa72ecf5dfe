use Rattle.std.proofs.Common.{◌≡◌, take, false}
use Rattle.proof_lines.specs.Clauses.{has}
use Rattle.proof_lines.proofs.clause.place_of.Given as goal

abbrev pub invariant-loop-i : goal.invariant-loop-i
invariant-loop-i l = has (take l.i l.lits) l.lit ≡ false
