-- What a replay of a safe specification keeps.
use Rattle.std.specs.Prelude.{◌≡◌, ℕ, List, slice_get, Some}
use Rattle.spec_core.specs.declared.world.World.{World}
use Rattle.spec_core.specs.Specification.{Specification}
use Rattle.spec_states.specs.StateText.{state_text}
use Rattle.executions.specs.Orders.{AreIn}
use Rattle.replica_replay.specs.Steps.{state_of}
use Rattle.replay_text.specs.declared.stop.Stop.TheVariants as stop
use Rattle.replay_text.specs.Course.{Course}

-- replicas that have taken the same events, in whichever order, print the same lines of their states
abbrev pub PrintAlike : Specification → World → Course → Type 0
PrintAlike d w c = (p q : ℕ) (one other : List ℕ)
    → slice_get c.held.taken p ≡ Some one → slice_get c.held.taken q ≡ Some other → AreIn one other
    → AreIn other one
    → state_text d w (state_of d w c.held one) ≡ state_text d w (state_of d w c.held other)

-- No state breaks an invariant, and replicas that have taken the same events print alike.
pub record GoesSafely (d : Specification) (w : World) (c : Course) : Type 0 where
  pub unbroken : (place : ℕ) → c.stop ≡ stop.Broken place → ⊥
  pub alike : PrintAlike d w c
