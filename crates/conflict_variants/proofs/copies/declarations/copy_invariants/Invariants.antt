use Rattle.std.proofs.Common.{◌≡◌, take}
use Rattle.conflict_variants.proofs.copies.declarations.copy_invariants.Given as goal

abbrev pub invariant-loop-invariant : goal.invariant-loop-invariant
invariant-loop-invariant l = l.copies ≡ take l.invariant-index l.invariants
