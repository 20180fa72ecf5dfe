use Rattle.std.proofs.Common.{◌≡◌, map, take}
use Rattle.lin_rows.specs.Rows.{opposite}
use Rattle.lin_rows.proofs.negation.opposites.Given as goal

abbrev pub invariant-loop-term : goal.invariant-loop-term
invariant-loop-term l = l.out.items ≡ map opposite (take l.term-index l.terms)
