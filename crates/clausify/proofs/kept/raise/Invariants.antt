use Rattle.std.proofs.Common.{◌≡◌, map, drop, []}
use Rattle.proof_lines.specs.Clauses.{join}
use Rattle.clausify.specs.Kept.{raised}
use Rattle.clausify.proofs.kept.raise.Given as goal

abbrev pub invariant-loop-lit : goal.invariant-loop-lit
invariant-loop-lit l = join l.made (map (raised l.first l.more) (drop l.lit-index l.clause)) ≡ join [] (map (raised l.first l.more) l.clause)
