use Rattle.std.proofs.Common.{◌≡◌, ◌≤◌, ◌-◌, ◌++◌, take, drop, length}
use Rattle.ground_problem.specs.Equality.{insert_rising}
use Rattle.instances.proofs.agreeing.place_of.Given as goal

abbrev pub decreases-loop-place : goal.decreases-loop-place
decreases-loop-place l = length l.tuples - l.place

abbrev pub invariant-loop-place : goal.invariant-loop-place
invariant-loop-place l = record {
  made : insert_rising l.tuple l.tuples ≡ take l.place l.tuples ++ insert_rising l.tuple (drop l.place l.tuples);
  place : l.place ≤ length l.tuples;
}
