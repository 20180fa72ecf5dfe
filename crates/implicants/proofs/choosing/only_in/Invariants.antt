use Rattle.std.proofs.Common.{◌≡◌, true}
use Rattle.std.specs.Prelude.{IfSome}
use Rattle.sat_core.specs.Trails.{in_trail}
use Rattle.implicants.proofs.choosing.only_in.Given as goal

abbrev pub invariant-loop-lit : goal.invariant-loop-lit
invariant-loop-lit l = IfSome l.found (λ x. in_trail l.trail x ≡ true)
