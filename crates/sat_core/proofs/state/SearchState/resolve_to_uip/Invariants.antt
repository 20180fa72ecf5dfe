use Rattle.std.proofs.Common.{length}
use Rattle.sat_core.specs.Searching.{GoesOn}
use Rattle.sat_core.proofs.state.SearchState.resolve_to_uip.Given as goal

abbrev pub invariant-chain : goal.invariant-chain
invariant-chain l = GoesOn l.budget l.fn.self l.start l.self l.reached

abbrev pub decreases-chain : goal.decreases-chain
decreases-chain l = length l.self.trail
