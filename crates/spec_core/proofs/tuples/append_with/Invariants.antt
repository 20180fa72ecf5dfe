use Rattle.std.proofs.Common.{◌≡◌, ◌∷◌, ◌++◌, map, take}
use Rattle.spec_core.proofs.tuples.append_with.Given as goal

abbrev pub invariant-loop-rest : goal.invariant-loop-rest
invariant-loop-rest l = l.out ≡ l.initial.out ++ map (λ t. l.first ∷ t) (take l.rest-index l.rests)
