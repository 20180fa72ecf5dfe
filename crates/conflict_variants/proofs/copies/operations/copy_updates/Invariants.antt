use Rattle.std.proofs.Common.{◌≡◌, take}
use Rattle.conflict_variants.proofs.copies.operations.copy_updates.Given as goal

abbrev pub invariant-loop-update : goal.invariant-loop-update
invariant-loop-update l = l.copies ≡ take l.update-index l.updates
