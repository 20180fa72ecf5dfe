-- What a simulation of a safe specification keeps.
use Rattle.std.specs.Prelude.{◌≡◌, ℕ, slice_get, Some}
use Rattle.spec_core.specs.declared.world.World.{World}
use Rattle.spec_core.specs.Specification.{Specification}
use Rattle.spec_states.specs.StateText.{state_text}
use Rattle.executions.specs.Orders.{AreIn}
use Rattle.token_protocol.specs.Network.{Replica}
use Rattle.simulate_text.specs.declared.said.Stop.TheVariants as stop
use Rattle.simulate_text.specs.Course.{Course}

-- replicas that have taken the same events, in whichever order, print the same lines of their states
abbrev pub PrintAlike : Specification → World → Course → Type 0
PrintAlike d w c = (p q : ℕ) (one other : Replica)
    → slice_get c.after.net.replicas p ≡ Some one → slice_get c.after.net.replicas q ≡ Some other
    → AreIn one.taken other.taken → AreIn other.taken one.taken
    → state_text d w one.node.state ≡ state_text d w other.node.state

-- No state breaks an invariant, and replicas that have taken the same events print alike.
pub record GoesSafely (d : Specification) (w : World) (c : Course) : Type 0 where
  pub unbroken_first : (place : ℕ) → c.stop ≡ stop.BrokenFirst place → ⊥
  pub unbroken : (place : ℕ) → c.stop ≡ stop.Broken place → ⊥
  pub alike : PrintAlike d w c
