use Rattle.std.proofs.Common.{◌≡◌, take}
use Rattle.proof_lines.specs.Clauses.{join, without, flip}
use Rattle.proof_lines.proofs.clause.put_right.Given as goal

abbrev pub invariant-loop-lit : goal.invariant-loop-lit
invariant-loop-lit l = l.out.items ≡ join (without l.up l.left) (without (flip l.up) (take l.lit-index l.right))
