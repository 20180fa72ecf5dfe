-- What holds of every network: its events form an execution, and what that rests on.
use Rattle.std.specs.Prelude.{◌≡◌, ℕ, ◌<◌, true, false, ◌⊎◌, List, Some, Contains, slice_get}
use Rattle.spec_core.specs.declared.world.World.{World}
use Rattle.spec_core.specs.Specification.{Specification}
use Rattle.spec_core.specs.Meaning.{inv}
use Rattle.spec_core.specs.Fits.{is_world}
use Rattle.token_rules.specs.Conflict.{conflicts}
use Rattle.executions.specs.Orders.{AreIn, IsOrder}
use Rattle.executions.specs.Executions.{state_after, IsExecution}
use Rattle.executions.specs.Convergence.{system_of}
use Rattle.token_protocol.specs.declared.message.EventId.{EventId}
use Rattle.token_protocol.specs.declared.message.Message.TheVariants as message
use Rattle.token_protocol.specs.declared.granted.Granted.{Granted}
use Rattle.token_protocol.specs.Node.{takes_none}
use Rattle.token_protocol.specs.declared.network.NetStep.{NetStep}
use Rattle.token_protocol.specs.Network.{Network, Replica, Happened, events_of, network_of}

-- a call is known as void to the network, where a Void of it was sent
abbrev pub IsVoid : Network → EventId → Type 0
IsVoid net id = Contains net.messages (message.Void id)

-- an event with this id is among these events
abbrev pub IsOneOf : Network → List ℕ → EventId → Type 0
IsOneOf net numbers id =
    (k : ℕ) × (h : Happened) × Contains numbers k × (slice_get net.happened k ≡ Some h)
    × (h.id ≡ id)

-- the grant with which a call was run: what it names had been taken there before, or is void
pub record RanByGrant (net : Network) (h : Happened) : Type 0 where
  pub grant : Granted
  pub granted : Contains net.granted grant
  pub id : grant.id ≡ h.id
  pub call : grant.call ≡ h.event.call
  pub named : (id : EventId) → Contains grant.after id → IsOneOf net h.event.seen id ⊎ IsVoid net id

-- The events of the network form an execution, what each replica has taken is a delivery order of it, and the state of its node is
-- the state after that.
pub record IsExecuted (d : Specification) (w : World) (net : Network) : Type 0 where
  pub run : IsExecution (system_of d w) (events_of net)
  pub orders : (r : ℕ) (at : Replica) → slice_get net.replicas r ≡ Some at
      → IsOrder (events_of net) at.taken
  pub states : (r : ℕ) (at : Replica) → slice_get net.replicas r ≡ Some at
      → at.node.state ≡ state_after (system_of d w) (events_of net) at.taken

-- What this rests on. Of two grants whose calls conflict the later names the earlier. A call that takes tokens was run by a grant.
-- A call that is void never runs, and no call runs twice.
pub record IsGranted (d : Specification) (w : World) (net : Network) : Type 0 where
  pub later_names_earlier : (i j : ℕ) (g h : Granted) → i < j → slice_get net.granted i ≡ Some g
      → slice_get net.granted j ≡ Some h → conflicts d w g.call h.call ≡ true
      → Contains h.after g.id
  pub run_by_grant : (k : ℕ) (h : Happened) → slice_get net.happened k ≡ Some h
      → takes_none d h.event.call ≡ false → RanByGrant net h
  pub void_never_runs : (k : ℕ) (h : Happened) → slice_get net.happened k ≡ Some h
      → ¬ IsVoid net h.id
  pub runs_once : (i j : ℕ) (g h : Happened) → slice_get net.happened i ≡ Some g
      → slice_get net.happened j ≡ Some h → g.id ≡ h.id → i ≡ j

-- two replicas are in one state, which satisfies the invariant
pub record AreInOneState (d : Specification) (w : World) (one other : Replica) : Type 0 where
  pub same : one.node.state ≡ other.node.state
  pub inv : inv d w one.node.state ≡ true

-- In a world that fits, any two replicas of any network that have taken the same events are in one state, which satisfies the
-- invariant.
abbrev pub NetworksConverge : Specification → Type 0
NetworksConverge d =
    (w : World) → is_world d w ≡ true
    → (replicas : ℕ) (steps : List NetStep) (r s : ℕ) (one other : Replica)
    → slice_get (network_of d w replicas steps).replicas r ≡ Some one
    → slice_get (network_of d w replicas steps).replicas s ≡ Some other
    → AreIn one.taken other.taken → AreIn other.taken one.taken → AreInOneState d w one other
