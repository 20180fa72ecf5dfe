use Rattle.diff_bounds.specs.Walks.{AreStarts}
use Rattle.diff_bounds.proofs.walks.Walks.start.Given as goal

abbrev pub invariant-loop-place : goal.invariant-loop-place
invariant-loop-place l = AreStarts l.place l.visits.items l.latest.items
