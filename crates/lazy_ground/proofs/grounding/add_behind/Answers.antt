use Rattle.ground_groups.proofs.Lists.{makes_first}
use Rattle.lazy_ground.proofs.grounding.add_behind.Goals as goal

pub returns : goal.returns
returns c = makes_first c.add_congruence.result _ _ _ _ c.requires.none c.in_ok-number_all_pairs.ensures c.add_congruence.ensures
