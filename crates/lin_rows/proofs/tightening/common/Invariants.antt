use Rattle.std.proofs.Common.{ℕ, drop}
use Rattle.lin_rows.proofs.Divisor.{common_from}
use Rattle.lin_rows.proofs.tightening.common.Given as goal

abbrev pub invariant-loop-term : goal.invariant-loop-term
invariant-loop-term l = (g : ℕ) → common_from l.g (drop l.term-index l.terms) g → common_from 0 l.terms g
