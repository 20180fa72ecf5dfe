use Rattle.std.proofs.Common.{◌≡◌, map, take}
use Rattle.sat_core.specs.Searching.{lit_at}
use Rattle.sat_core.proofs.row_assignments.pick.Given as goal

abbrev pub invariant-loop-number : goal.invariant-loop-number
invariant-loop-number l = l.out ≡ map (lit_at l.lits) (take l.number-index l.used)
