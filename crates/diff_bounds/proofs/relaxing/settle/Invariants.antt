use Rattle.diff_bounds.specs.States.{IsSettling}
use Rattle.diff_bounds.proofs.relaxing.settle.Given as goal

abbrev pub invariant-loop-round : goal.invariant-loop-round
invariant-loop-round l = IsSettling l.edges l.initial.walks.ints l._round l.walks
