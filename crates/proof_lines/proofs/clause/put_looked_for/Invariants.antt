use Rattle.std.proofs.Common.{◌≡◌, take}
use Rattle.proof_lines.specs.Clauses.{join, without}
use Rattle.proof_lines.proofs.clause.put_looked_for.Given as goal

abbrev pub invariant-loop-lit : goal.invariant-loop-lit
invariant-loop-lit l = l.out.items ≡ join l.fn.out.items (without l.down (take l.lit-index l.right))
