-- After how many of its events the state of a replica is known to break no invariant. This serves the code and its proofs.
use Rattle.std.specs.Prelude.{◌≡◌, ℕ, ◌≤◌, List, [], ◌∷◌, ◌++◌, length, take, get_or, slice_get, None, Some}
use Rattle.spec_core.specs.declared.world.World.{World}
use Rattle.spec_core.specs.declared.world.Call.{Call}
use Rattle.spec_core.specs.Specification.{Specification}
use Rattle.spec_core.specs.Meaning.{broken_at}
use Rattle.executions.specs.Orders.{Event}
use Rattle.executions.specs.Executions.{state_after}
use Rattle.executions.specs.Convergence.{system_of}
use Rattle.token_protocol.specs.Network.{Network, Replica, events_of}
use Rattle.token_core.specs.HeldNet.{HeldNet, network_held}

-- A replica that has taken these events has taken so many, and the state after the first so many breaks no invariant.
pub record IsUnbrokenAfter (d : Specification) (w : World) (events : List (Event Call))
    (taken : List ℕ) (count : ℕ) : Type 0 where
  pub within : count ≤ length taken
  pub holds : broken_at d w (state_after (system_of d w) events (take count taken)) ≡ None

-- so it is with each replica of a network, each with its count in a list
abbrev pub AreUnbrokenIn : Specification → World → Network → List ℕ → Type 0
AreUnbrokenIn d w net counts =
    (r : ℕ) (at : Replica) → slice_get net.replicas r ≡ Some at
    → IsUnbrokenAfter d w (events_of net) at.taken (get_or counts r 0)

-- the same of a network that is held
abbrev pub AreUnbroken : HeldNet → List ℕ → Type 0
AreUnbroken net counts = AreUnbrokenIn net.spec net.world (network_held net) counts

-- what is known so of a network is so of another one
abbrev pub StaysUnbroken : HeldNet → HeldNet → Type 0
StaysUnbroken net next = (counts : List ℕ) → AreUnbroken net counts → AreUnbroken next counts

-- A replica that has taken these events took one after the first so many, and this is its call.
pub record IsLastCall (events : List (Event Call)) (taken : List ℕ) (count : ℕ)
    (call : Call) : Type 0 where
  pub last : ℕ
  pub event : Event Call
  pub taken_is : taken ≡ take count taken ++ last ∷ []
  pub stands : slice_get events last ≡ Some event
  pub call_is : event.call ≡ call
