use Rattle.std.proofs.Common.{false}
use Rattle.diff_bounds.specs.States.{AreRelaxed}
use Rattle.diff_bounds.proofs.relaxing.relax_all.Given as goal

abbrev pub invariant-loop-number : goal.invariant-loop-number
invariant-loop-number l = AreRelaxed l.edges 0 l.number l.initial.walks l.walks false
