use Rattle.std.proofs.Common.{◌≡◌, take, map}
use Rattle.typing_rules.specs.Lines.{spot_of}
use Rattle.spec_types.specs.faults.Views.{scope_of}
use Rattle.spec_types.proofs.elaborating.lines.spots_of.Given as goal

-- the spots so far
abbrev pub invariant-loop-spot : goal.invariant-loop-spot
invariant-loop-spot l = l.made ≡ map (spot_of (scope_of l.scope)) (take l.spot-index l.spots)
