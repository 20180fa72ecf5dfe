use Rattle.std.proofs.Common.{◌≤◌, length}
use Rattle.lazy_ground.proofs.Serving.{AreReadFrom}
use Rattle.lazy_ground.proofs.keeping.are_named.Given as goal

abbrev pub invariant-loop-reading : goal.invariant-loop-reading
invariant-loop-reading l = record {
  count : l.count ≤ length l.readings;
  read : AreReadFrom l.reading-items l.reading-index l.readings l.count → AreReadFrom l.reading-items 0 l.readings 0;
}
