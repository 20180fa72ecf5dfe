use Rattle.std.proofs.Common.{◌≡◌, take}
use Rattle.proof_lines.specs.Clauses.{negations}
use Rattle.proof_lines.proofs.clause.Clause.of_opposites.Given as goal

abbrev pub invariant-loop-lit : goal.invariant-loop-lit
invariant-loop-lit l = l.clause ≡ negations (take l.lit-index l.lits)
