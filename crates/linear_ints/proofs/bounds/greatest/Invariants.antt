use Rattle.std.proofs.Common.{take}
use Rattle.linear_ints.specs.Bounds.{IsGreatestOf}
use Rattle.linear_ints.proofs.bounds.greatest.Given as goal

abbrev pub invariant-loop-number : goal.invariant-loop-number
invariant-loop-number l = IsGreatestOf l.upper l.before l.place l.held l.values (take l.number-index l.named) l.greatest.row l.greatest.value
