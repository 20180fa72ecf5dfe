use Rattle.std.proofs.Common.{◌==◌, ◌∙◌}
use Rattle.sat_core.specs.Trails.{before_last}
use Rattle.unit_propagation.proofs.Steady.{open-one}
use Rattle.unit_propagation.proofs.looking.is_open_before.Goals as goal

pub returns : goal.returns
returns c = (λ i. c.count_open_before.ensures i == 1) ∙ open-one (before_last c.args.trail.now) c.args.lit
