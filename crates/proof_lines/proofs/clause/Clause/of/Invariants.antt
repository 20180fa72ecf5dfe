use Rattle.std.proofs.Common.{◌≡◌, take, []}
use Rattle.proof_lines.specs.Clauses.{join}
use Rattle.proof_lines.proofs.clause.Clause.of.Given as goal

abbrev pub invariant-loop-lit : goal.invariant-loop-lit
invariant-loop-lit l = l.clause ≡ join [] (take l.lit-index l.lits)
