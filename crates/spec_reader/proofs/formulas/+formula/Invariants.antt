use Rattle.std.proofs.Common.{◌+◌, ◌*◌}
use Rattle.spec_reader.proofs.formulas.+formula.Given as goal

abbrev pub decreases-inner : goal.decreases-inner
decreases-inner l = 8 * l.depth + 1

abbrev pub decreases-plain : goal.decreases-plain
decreases-plain l = 8 * l.depth + 2

abbrev pub decreases-negation : goal.decreases-negation
decreases-negation l = 8 * l.depth + 3

abbrev pub decreases-formula : goal.decreases-formula
decreases-formula l = 8 * l.depth + 4

abbrev pub decreases-connected_with : goal.decreases-connected_with
decreases-connected_with l = 8 * l.depth + 5

abbrev pub decreases-connected : goal.decreases-connected
decreases-connected l = 8 * l.depth + 6

abbrev pub decreases-after : goal.decreases-after
decreases-after l = 8 * l.depth + 6

abbrev pub decreases-named : goal.decreases-named
decreases-named l = 8 * l.depth + 7

abbrev pub decreases-inside : goal.decreases-inside
decreases-inside l = 8 * l.depth + 8
