use Rattle.std.proofs.Common.{◌≡◌, ◌++◌, map, drop, length}
use Rattle.model_back.proofs.world.sizes_of.Given as goal

abbrev pub invariant-loop-own : goal.invariant-loop-own
invariant-loop-own l = map length l.classes ≡ l.sizes ++ map length (drop l.own-index l.classes)
