use Rattle.std.proofs.Common.{◌≡◌, drop}
use Rattle.lin_rows.specs.Rows.{coefficient_at}
use Rattle.lin_rows.proofs.row.Row.coefficient.Given as goal

abbrev pub invariant-loop-term : goal.invariant-loop-term
invariant-loop-term l = coefficient_at l.self.terms l.place ≡ coefficient_at (drop l.term-index l.self.terms) l.place
