use Rattle.executions.proofs.Folding.{Follows}
use Rattle.executions.proofs.state.state_after.Given as goal

-- the state so far is that after the events so far
abbrev pub invariant-loop-number : goal.invariant-loop-number
invariant-loop-number l = Follows l.spec l.world l.events l.order l.number-index l.state
