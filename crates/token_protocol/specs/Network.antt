-- The network after a list of steps: every message that was ever sent can be delivered to any replica, at any step.
use Rattle.std.specs.Prelude.{ℕ, zero, suc, ◌+◌, cond, List, [], ◌∷◌, ◌++◌, Option, None, Some, Result, Ok, Err, length, map, set, slice_get, fold}
use Rattle.spec_core.specs.declared.world.World.{World}
use Rattle.spec_core.specs.declared.world.Call.{Call}
use Rattle.spec_core.specs.Specification.{Specification}
use Rattle.executions.specs.Orders.{Event}
use Rattle.token_protocol.specs.declared.message.EventId.{EventId}
use Rattle.token_protocol.specs.declared.message.Request.{Request}
use Rattle.token_protocol.specs.declared.message.Message.{Message}
use Rattle.token_protocol.specs.declared.message.Message.TheVariants as message
use Rattle.token_protocol.specs.declared.node.NodeRefused.{NodeRefused}
use Rattle.token_protocol.specs.declared.node.NodeRefused.TheVariants as refusal
use Rattle.token_protocol.specs.declared.network.NetStep.{NetStep}
use Rattle.token_protocol.specs.declared.network.NetStep.TheVariants as step
use Rattle.token_protocol.specs.declared.network.NetDid.{NetDid}
use Rattle.token_protocol.specs.declared.network.NetDid.TheVariants as did
use Rattle.token_protocol.specs.declared.network.NetRefused.{NetRefused}
use Rattle.token_protocol.specs.declared.network.NetRefused.TheVariants as unable
use Rattle.token_protocol.specs.Ids.{same_id}
use Rattle.token_protocol.specs.declared.granted.Granted.{Granted}
use Rattle.token_protocol.specs.Manager.{Asked, asked}
use Rattle.token_protocol.specs.Node.{Node, first_node, Run, ran, void, Begin, refused, waits, runs, begin, Hear, not_heard, awaits, grants, takes, notes, old, hear}

-- A replica of the network: its node, and the numbers of the events that it has taken, in that order.
pub record Replica : Type 0 where
  pub node : Node
  pub taken : List ℕ

-- a call that was run: its id, and its event
pub record Happened : Type 0 where
  pub id : EventId
  pub event : Event Call

-- What a network holds: its replicas, what its manager has granted, the requests and messages so far, and the calls that were
-- run, in the order of the steps that ran them.
pub record Network : Type 0 where
  pub replicas : List Replica
  pub granted : List Granted
  pub requests : List Request
  pub messages : List Message
  pub happened : List Happened

-- the events of a network
abbrev pub events_of : Network → List (Event Call)
events_of net = map (λ h. h.event) net.happened

-- the replicas before the first step, numbered on from here
abbrev pub first_replicas : Specification → World → ℕ → ℕ → List Replica
first_replicas d w from zero = []
first_replicas d w from (suc n) =
    (let replica : Replica = record { node = first_node d w from; taken = [] } in replica)
    ∷ first_replicas d w (suc from) n

-- the network of this number of replicas before the first step
abbrev pub first_network : Specification → World → ℕ → Network
first_network d w replicas = record {
  replicas = first_replicas d w 0 replicas;
  granted = [];
  requests = [];
  messages = [];
  happened = [];
}

-- the number of the event of a call; how many there are, where there is none
abbrev pub number_of : List Happened → EventId → ℕ
number_of [] id = 0
number_of (h ∷ hs) id = cond (same_id h.id id) 0 (suc (number_of hs id))

-- ---- what a network holds after parts of a step

-- its replica of this number has another node, and has taken these events
abbrev pub with_replica : Network → ℕ → Node → List ℕ → Network
with_replica net r node taken =
    record net {
      replicas = set net.replicas r
          (let replica : Replica = record { node = node; taken = taken } in replica);
    }

-- one message more
abbrev pub with_message : Network → Message → Network
with_message net m = record net { messages = net.messages ++ m ∷ [] }

-- one request more
abbrev pub with_request : Network → Request → Network
with_request net request = record net { requests = net.requests ++ request ∷ [] }

-- one event more
abbrev pub with_event : Network → EventId → Event Call → Network
with_event net id event =
    record net {
      happened = net.happened
          ++ (let h : Happened = record { id = id; event = event } in h) ∷ [];
    }

-- ---- steps

-- What comes of a step: what it did and what the network holds then, or why it is refused.
pub data Outcome : Type 0 where
  accepted : NetDid → Network → Outcome
  rejected : NetRefused → Outcome

-- a node's refusal is the network's
abbrev pub node_refused : NodeRefused → NetRefused
node_refused refusal.Arguments = unable.Arguments
node_refused (refusal.Waiting id) = unable.Waiting id
node_refused (refusal.Range counter key value) = unable.Range counter key value
node_refused refusal.Memory = unable.Memory

-- A call that was run makes the next event, which has seen what its replica had taken, and the replica takes it; its Done is sent.
-- That a call is void is sent too.
abbrev pub run_at : Network → ℕ → Replica → Run → Outcome
run_at net r at (ran id call seen node) =
    accepted (did.Ran (length net.happened))
    (with_replica
    (with_event (with_message net (message.Done id call seen)) id
    (record { call = call; seen = at.taken }))
    r node (at.taken ++ length net.happened ∷ []))
run_at net r at (void cause id node) =
    accepted (did.Void cause (length net.messages))
    (with_replica (with_message net (message.Void id)) r node at.taken)

-- a replica makes a call
abbrev pub begin_at : Network → ℕ → Replica → Begin → Outcome
begin_at net r at (refused cause) = rejected (node_refused cause)
begin_at net r at (waits request node) =
    accepted (did.Asked (length net.requests))
    (with_replica (with_request net request) r node at.taken)
begin_at net r at (runs it) = run_at net r at it

-- a replica gets a message
abbrev pub hear_at : Network → ℕ → Replica → Hear → Outcome
hear_at net r at (not_heard cause) = rejected (node_refused cause)
hear_at net r at (awaits id) = accepted (did.Awaits id) net
hear_at net r at (grants it) = run_at net r at it
hear_at net r at (takes id node) =
    accepted (did.Took (number_of net.happened id))
    (with_replica net r node (at.taken ++ number_of net.happened id ∷ []))
hear_at net r at (notes node) = accepted did.Noted (with_replica net r node at.taken)
hear_at net r at old = accepted did.Old net

-- the manager gets a request, and what it answers is sent
abbrev pub grant_by : Network → Asked → Outcome
grant_by net a =
    accepted (did.Granted (length net.messages))
    (record (with_message net a.message) { granted = a.granted })

-- a step by which a replica makes a call, where the replica of this number is there
abbrev pub begins : Specification → World → Network → ℕ → Call → Option Replica → Outcome
begins d w net r call None = rejected unable.Replica
begins d w net r call (Some at) = begin_at net r at (begin d w at.node call)

-- a step at the manager, where the request of this number is there
abbrev pub asks : Specification → World → Network → Option Request → Outcome
asks d w net None = rejected unable.NoMessage
asks d w net (Some request) = grant_by net (asked d w net.granted request)

-- a step of a replica that is there, where the message of this number is there
abbrev pub hears_message : Specification → World → Network → ℕ → Replica → Option Message → Outcome
hears_message d w net r at None = rejected unable.NoMessage
hears_message d w net r at (Some m) = hear_at net r at (hear d w at.node m)

-- a step by which a replica hears a message, where both are there
abbrev pub hears : Specification → World → Network → ℕ → Option Message → Option Replica → Outcome
hears d w net r m None = rejected unable.Replica
hears d w net r m (Some at) = hears_message d w net r at m

-- The outcome of a step.
abbrev pub outcome : Specification → World → Network → NetStep → Outcome
outcome d w net (step.Begin r call) = begins d w net r call (slice_get net.replicas r)
outcome d w net (step.Ask q) = asks d w net (slice_get net.requests q)
outcome d w net (step.Hear r m) =
    hears d w net r (slice_get net.messages m) (slice_get net.replicas r)

-- what the network holds after a step: a refused one changes nothing
abbrev pub network_after : Network → Outcome → Network
network_after net (accepted what next) = next
network_after net (rejected cause) = net

-- what a step answers
abbrev pub answer : Outcome → Result NetDid NetRefused
answer (accepted what next) = Ok what
answer (rejected cause) = Err cause

-- The network after a list of steps, each done as above, folded anew.
abbrev pub network_of : Specification → World → ℕ → List NetStep → Network
network_of d w replicas steps =
    fold (λ net s. network_after net (outcome d w net s)) (first_network d w replicas) steps
