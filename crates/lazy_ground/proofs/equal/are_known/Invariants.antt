use Rattle.std.proofs.Common.{◌≡◌, drop}
use Rattle.lazy_ground.specs.Equal.{all_known}
use Rattle.lazy_ground.proofs.equal.are_known.Given as goal

abbrev pub invariant-loop-place : goal.invariant-loop-place
invariant-loop-place l = all_known l.atoms.table (drop l.place l.constants) ≡ all_known l.atoms.table l.constants
