use Rattle.std.proofs.Common.{◌≡◌, take, map, []}
use Rattle.conflict_variants.specs.Takes.{with_takes}
use Rattle.conflict_variants.proofs.making.bare_operations.Given as goal

abbrev pub invariant-loop-operation : goal.invariant-loop-operation
invariant-loop-operation l = l.copies ≡ map (λ o. with_takes o []) (take l.operation-index l.operations)
