use Rattle.std.proofs.Common.{◌≡◌, ◌++◌, drop, map}
use Rattle.ground_atoms.specs.Symbols.{reading_of}
use Rattle.lazy_ground.specs.Kept.{thing_of, AllBuilt}
use Rattle.lazy_ground.specs.Pairs.{AllNumbered}
use Rattle.lazy_ground.proofs.naming.pairs_of_all.Given as goal

abbrev pub invariant-loop-thing : goal.invariant-loop-thing
invariant-loop-thing l = record {
  things : map thing_of l.pairs ++ drop l.thing-index l.things ≡ l.things;
  built : AllBuilt (map reading_of l.readings) l.pairs;
  numbered : AllNumbered l.atoms.table l.pairs;
}
