-- How a network is kept: what each step keeps, and from which the rest follows. This serves the proofs, and the code of a network.
use Rattle.std.specs.Prelude.{◌≡◌, ◌≢◌, ℕ, ◌<◌, true, false, ◌⊎◌, List, [], ◌∷◌, Some, Contains, slice_get, take}
use Rattle.spec_core.specs.declared.world.World.{World}
use Rattle.spec_core.specs.declared.world.Call.{Call}
use Rattle.spec_core.specs.Specification.{Specification}
use Rattle.spec_core.specs.Fits.{call_fits}
use Rattle.executions.specs.Orders.{IsOrder}
use Rattle.executions.specs.Executions.{state_after, IsExecution}
use Rattle.executions.specs.Convergence.{system_of}
use Rattle.token_protocol.specs.declared.message.EventId.{EventId}
use Rattle.token_protocol.specs.declared.message.Request.{Request}
use Rattle.token_protocol.specs.declared.message.Message.{Message}
use Rattle.token_protocol.specs.declared.message.Message.TheVariants as message
use Rattle.token_protocol.specs.declared.granted.Granted.{Granted}
use Rattle.token_protocol.specs.Manager.{conflicting}
use Rattle.token_protocol.specs.Node.{takes_none}
use Rattle.token_protocol.specs.Network.{Network, Replica, Happened, events_of}
use Rattle.token_protocol.specs.Executed.{IsVoid, IsOneOf, RanByGrant}

-- the replica of this number
abbrev pub IsReplica : Network → ℕ → Replica → Type 0
IsReplica net r at = slice_get net.replicas r ≡ Some at

-- the call of this event is the one that was run as the k-th
abbrev pub IsHappened : Network → ℕ → Happened → Type 0
IsHappened net k h = slice_get net.happened k ≡ Some h

-- the replica of an id has used up its turn
abbrev pub IsPast : Network → EventId → Type 0
IsPast net id =
    (r : ℕ) (at : Replica) → IsReplica net r at → at.node.replica ≡ id.replica
    → id.turn < at.node.turn

-- a call that neither was run nor is void
pub record IsOpen (net : Network) (id : EventId) : Type 0 where
  pub not_run : (k : ℕ) (h : Happened) → IsHappened net k h → h.id ≢ id
  pub not_void : ¬ IsVoid net id

-- the request of a call that waits at a replica
pub record IsWaiting (net : Network) (r : ℕ) (request : Request) : Type 0 where
  pub sent : Contains net.requests request
  pub own : request.id.replica ≡ r
  pub still : IsOpen net request.id

-- these are the ids of the events with these numbers, one by one
abbrev pub AreIds : List Happened → List ℕ → List EventId → Type 0
AreIds happened [] [] = Unit {0}
AreIds happened [] (id ∷ ids) = ⊥
AreIds happened (k ∷ ks) [] = ⊥
AreIds happened (k ∷ ks) (id ∷ ids) =
    ((h : Happened) × (slice_get happened k ≡ Some h) × (h.id ≡ id)) × AreIds happened ks ids

-- What is granted was requested, and names the calls granted before that conflict with it.
pub record IsGrantAt (d : Specification) (w : World) (net : Network) (i : ℕ)
    (g : Granted) : Type 0 where
  pub requested : Contains net.requests (record { id = g.id; call = g.call })
  pub named : g.after ≡ conflicting d w (take i net.granted) g.call

-- What a message says is so: the grant was granted, the call was run and had seen these, and the id of a void call is of a past turn.
abbrev pub IsTrueMessage : Network → Message → Type 0
IsTrueMessage net (message.Grant id after) =
    (g : Granted) × Contains net.granted g × (g.id ≡ id) × (g.after ≡ after)
IsTrueMessage net (message.Done id call seen) =
    (k : ℕ) × (h : Happened) × IsHappened net k h × (h.id ≡ id) × (h.event.call ≡ call)
    × AreIds net.happened h.event.seen seen
IsTrueMessage net (message.Void id) = IsPast net id

-- What every network keeps after any steps: what its nodes, requests, grants and messages say is true of what happened, and
-- that is an execution.
pub record IsKept (d : Specification) (w : World) (net : Network) : Type 0 where
  -- replicas
  pub numbered : (r : ℕ) (at : Replica) → IsReplica net r at → at.node.replica ≡ r
  pub waiting : (r : ℕ) (at : Replica) (q : Request) → IsReplica net r at → at.node.waiting ≡ Some q
      → IsWaiting net r q
  pub voids : (r : ℕ) (at : Replica) (id : EventId) → IsReplica net r at → Contains at.node.void id
      → IsVoid net id
  pub ids : (r : ℕ) (at : Replica) → IsReplica net r at → AreIds net.happened at.taken at.node.taken
  pub orders : (r : ℕ) (at : Replica) → IsReplica net r at → IsOrder (events_of net) at.taken
  pub states : (r : ℕ) (at : Replica) → IsReplica net r at
      → at.node.state ≡ state_after (system_of d w) (events_of net) at.taken
  -- requests and grants
  pub past_requests : (q : Request) → Contains net.requests q → IsPast net q.id
  pub requests_fit : (q : Request) → Contains net.requests q → call_fits d w q.call ≡ true
  pub one_call : (p q : Request) → Contains net.requests p → Contains net.requests q → p.id ≡ q.id
      → p.call ≡ q.call
  pub grants : (i : ℕ) (g : Granted) → slice_get net.granted i ≡ Some g → IsGrantAt d w net i g
  pub one_grant : (i j : ℕ) (g h : Granted) → slice_get net.granted i ≡ Some g
      → slice_get net.granted j ≡ Some h → g.id ≡ h.id → i ≡ j
  -- messages
  pub messages : (m : Message) → Contains net.messages m → IsTrueMessage net m
  -- what happened
  pub past_events : (k : ℕ) (h : Happened) → IsHappened net k h → IsPast net h.id
  pub one_event : (i j : ℕ) (g h : Happened) → IsHappened net i g → IsHappened net j h → g.id ≡ h.id
      → i ≡ j
  pub not_void : (k : ℕ) (h : Happened) → IsHappened net k h → ¬ IsVoid net h.id
  pub by_grant : (k : ℕ) (h : Happened) → IsHappened net k h → takes_none d h.event.call ≡ false
      → RanByGrant net h
  pub calls_fit : (k : ℕ) (h : Happened) → IsHappened net k h → call_fits d w h.event.call ≡ true
  pub run : IsExecution (system_of d w) (events_of net)
