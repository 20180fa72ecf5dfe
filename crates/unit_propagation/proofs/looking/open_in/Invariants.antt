use Rattle.std.proofs.Common.{◌≡◌, true, take}
use Rattle.sat_core.specs.Trails.{is_false}
use Rattle.unit_propagation.proofs.looking.open_in.Given as goal

abbrev pub invariant-loop-lit : goal.invariant-loop-lit
invariant-loop-lit l = is_false l.trail (take l.lit-index l.lits) ≡ true
