use Rattle.std.proofs.Common.{length}
use Rattle.ground_groups.proofs.assigning.+count_choices.Given as goal

abbrev pub decreases-count_choices : goal.decreases-count_choices
decreases-count_choices l = length l.options.now
