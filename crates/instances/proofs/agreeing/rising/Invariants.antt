use Rattle.std.proofs.Common.{◌≡◌, ◌≤◌, map, drop, length, filter}
use Rattle.effectors.specs.Effect.{is_thing}
use Rattle.ground_problem.specs.Equality.{rising}
use Rattle.ground_atoms.specs.Symbols.{reading_of}
use Rattle.instances.proofs.agreeing.rising.Given as goal

abbrev pub decreases-loop-place : goal.decreases-loop-place
decreases-loop-place l = l.place

abbrev pub invariant-loop-place : goal.invariant-loop-place
invariant-loop-place l = record {
  made : l.tuples ≡ rising (filter (λ q. is_thing q.thing l.thing) (map reading_of (drop l.place l.readings)));
  place : l.place ≤ length l.readings;
}
