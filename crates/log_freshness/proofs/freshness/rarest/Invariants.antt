use Rattle.std.proofs.Common.{◌≡◌, ◌<◌, true}
use Rattle.proof_lines.specs.Numbers.{stands_in}
use Rattle.log_freshness.specs.Index.{spots}
use Rattle.log_freshness.proofs.freshness.rarest.Given as goal

abbrev pub invariant-loop-lit : goal.invariant-loop-lit
invariant-loop-lit l = (l.best < l.count) × (stands_in (spots l.count l.lits) l.best ≡ true)
