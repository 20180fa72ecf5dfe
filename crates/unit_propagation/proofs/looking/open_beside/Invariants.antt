use Rattle.std.proofs.Common.{◌≡◌, true, take}
use Rattle.sat_core.specs.Trails.{others_false}
use Rattle.unit_propagation.proofs.looking.open_beside.Given as goal

abbrev pub invariant-loop-lit : goal.invariant-loop-lit
invariant-loop-lit l = others_false l.trail (take l.lit-index l.lits) l.one ≡ true
