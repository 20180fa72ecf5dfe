use Rattle.std.proofs.Common.{◌≡◌, drop}
use Rattle.log_freshness.specs.Index.{lits_marked}
use Rattle.log_freshness.proofs.freshness.first_unmarked.Given as goal

abbrev pub invariant-loop-i : goal.invariant-loop-i
invariant-loop-i l = lits_marked l.count l.marks l.lits ≡ lits_marked l.count l.marks (drop l.i l.lits)
