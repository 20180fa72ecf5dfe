use Rattle.std.proofs.Common.{◌≡◌, ◌∷◌, ◌++◌, map, take}
use Rattle.effectors.proofs.matching.add_before.Given as goal

abbrev pub invariant-loop-tuple : goal.invariant-loop-tuple
invariant-loop-tuple l = l.list ≡ l.fn.list ++ map (λ t. l.element ∷ t) (take l.tuple-index l.tuples)
