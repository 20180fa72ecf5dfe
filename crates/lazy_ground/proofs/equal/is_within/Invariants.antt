use Rattle.std.proofs.Common.{◌≡◌, drop}
use Rattle.lazy_ground.specs.Equal.{fits}
use Rattle.lazy_ground.proofs.equal.is_within.Given as goal

abbrev pub invariant-loop-place : goal.invariant-loop-place
invariant-loop-place l = fits (drop l.place l.columns) (drop l.place l.tuple) ≡ fits l.columns l.tuple
