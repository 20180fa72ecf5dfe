use Rattle.std.proofs.Common.{◌≡◌, take}
use Rattle.conflict_variants.specs.Keyed.{keyed_from}
use Rattle.conflict_variants.proofs.making.keyed_operations.Given as goal

abbrev pub invariant-loop-number : goal.invariant-loop-number
invariant-loop-number l = l.copies ≡ keyed_from l.key.first l.key.p l.key.second l.key.q 0 (take l.number l.spec.operations)
