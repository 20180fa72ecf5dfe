use Rattle.std.proofs.Common.{◌≡◌, true, take}
use Rattle.sat_core.specs.Trails.{others_false, before_last}
use Rattle.unit_propagation.proofs.looking.open_before_beside.Given as goal

abbrev pub invariant-loop-lit : goal.invariant-loop-lit
invariant-loop-lit l = others_false (before_last l.trail) (take l.lit-index l.lits) l.one ≡ true
