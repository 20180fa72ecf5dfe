use Rattle.std.proofs.Common.{◌≡◌, take, map}
use Rattle.lazy_ground.specs.Kept.{thing_of}
use Rattle.lazy_ground.proofs.keeping.are_relations_of.Given as goal

abbrev pub invariant-loop-place : goal.invariant-loop-place
invariant-loop-place l = map thing_of (take l.place l.pairs) ≡ take l.place l.things
