use Rattle.std.proofs.Common.{◌∙◌}
use Rattle.conflict_variants.proofs.TokenNames.{any_of_same}
use Rattle.conflict_variants.proofs.in_use.names_a_thing.Goals as goal

pub returns : goal.returns
returns c = c.any_of.ensures ∙ any_of_same _ _ _ _ _ _ c.names_a_sort.ensures c.names_a_const.ensures c.names_a_relation.ensures
