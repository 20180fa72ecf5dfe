use Rattle.std.proofs.Common.{◌≡◌, map, take}
use Rattle.lin_rows.specs.Divisors.{divided_term}
use Rattle.lin_rows.proofs.tightening.divide.Given as goal

abbrev pub invariant-loop-term : goal.invariant-loop-term
invariant-loop-term l = l.out.items ≡ map (divided_term l.by) (take l.term-index l.terms)
