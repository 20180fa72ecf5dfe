use Rattle.std.proofs.Common.{◌≡◌, drop}
use Rattle.std.specs.List.{list_any}
use Rattle.log_freshness.specs.Blocks.{number_within}
use Rattle.log_freshness.proofs.blocks.any_left_within.Given as goal

abbrev pub invariant-loop-i : goal.invariant-loop-i
invariant-loop-i l = list_any (number_within l.look.slots.now l.look.lits.now) l.numbers ≡ list_any (number_within l.look.slots.now l.look.lits.now) (drop l.i l.numbers)
