use Rattle.std.proofs.Common.{◌≡◌, take}
use Rattle.conflict_variants.proofs.copies.declarations.copy_relations.Given as goal

abbrev pub invariant-loop-relation : goal.invariant-loop-relation
invariant-loop-relation l = l.copies ≡ take l.relation-index l.relations
