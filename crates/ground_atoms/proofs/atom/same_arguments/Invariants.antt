use Rattle.std.proofs.Common.{◌≡◌, take}
use Rattle.ground_atoms.proofs.atom.same_arguments.Given as goal

abbrev pub invariant-loop-place : goal.invariant-loop-place
invariant-loop-place l = take l.place l.names ≡ take l.place l.few
