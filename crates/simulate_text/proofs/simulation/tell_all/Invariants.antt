use Rattle.std.proofs.Common.{◌≡◌}
use Rattle.spec_core.specs.declared.world.World.{World}
use Rattle.spec_core.specs.Specification.{Specification}
use Rattle.token_core.specs.HeldNet.{network_held}
use Rattle.simulate_text.specs.Course.{heard_by}
use Rattle.simulate_text.specs.Unbroken.{StaysUnbroken}
use Rattle.simulate_text.specs.Reached.{IsOf}
use Rattle.simulate_text.proofs.simulation.tell_all.Given as goal

abbrev pub invariant-loop-replica : goal.invariant-loop-replica
invariant-loop-replica g l =
    ((d : Specification) (w : World) → IsOf d w l.fn.net → IsOf d w l.net × (heard_by d w l.message l.replica (network_held l.fn.net) ≡ network_held l.net))
    × StaysUnbroken l.fn.net l.net
