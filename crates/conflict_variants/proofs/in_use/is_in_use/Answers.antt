use Rattle.std.proofs.Common.{◌∙◌}
use Rattle.conflict_variants.proofs.TokenNames.{any_of_same, in_use_by_kind}
use Rattle.conflict_variants.proofs.in_use.is_in_use.Goals as goal

pub returns : goal.returns
returns c = c.any_of.ensures ∙ any_of_same _ _ _ _ _ _ c.names_a_thing.ensures c.names_a_part.ensures c.names_any_param.ensures ∙ in_use_by_kind c.args.spec.now c.args.name.now
