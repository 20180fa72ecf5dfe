use Rattle.std.proofs.Common.{◌≡◌, take}
use Rattle.conflict_variants.proofs.copies.declarations.copy_consts.Given as goal

abbrev pub invariant-loop-constant : goal.invariant-loop-constant
invariant-loop-constant l = l.copies ≡ take l.constant-index l.constants
