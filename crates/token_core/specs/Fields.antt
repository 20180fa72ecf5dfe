-- What the fields of a network hold and keep; this mirrors src/net.rt.
use Rattle.std.specs.Prelude.{◌≡◌, ℕ, List, Some, map, slice_get}
use Rattle.spec_core.specs.declared.world.World.{World}
use Rattle.spec_core.specs.Specification.{Specification}
use Rattle.token_protocol.specs.declared.granted.Granted.{Granted}
use Rattle.token_protocol.specs.Network.{Network, Replica as ReplicaOf, first_replicas}
use Rattle.token_protocol.specs.Kept.{IsKept}
use Rattle.token_core.specs.declared.log.Log.{Log}
use Rattle.token_core.specs.Log.{Lists, lists_of}
use Rattle.token_core.specs.Held.{FitsIn}
use Rattle.token_core.specs.HeldNet.{HeldReplica, replica_of, HeldNet}
use Rattle.token_core.specs.declared.replica.Replica.{Replica}

-- a replica, as contracts see it
abbrev pub held_replica : Replica → HeldReplica
held_replica r = record { node = r.node; taken = r.taken.items }

-- a replica, as the protocol sees it
abbrev pub replica_at : Replica → ReplicaOf
replica_at r = replica_of (held_replica r)

-- the replicas, as the protocol sees them
abbrev pub replicas_in : List Replica → List ReplicaOf
replicas_in replicas = map replica_of (map held_replica replicas)

-- the network of these parts
abbrev pub network_with : List ReplicaOf → List Granted → Lists → Network
network_with replicas granted lists = record {
  replicas = replicas;
  granted = granted;
  requests = lists.requests;
  messages = lists.messages;
  happened = lists.happened;
}

-- the network that the fields hold
abbrev pub network_in : List Replica → List Granted → Log → Network
network_in replicas granted log = network_with (replicas_in replicas) granted (lists_of log)

-- the network that the fields hold, as contracts see it
abbrev pub held_in : Specification → World → ℕ → List Replica → List Granted → Log → HeldNet
held_in d w steps replicas granted log = record {
  spec = d;
  world = w;
  steps = steps;
  replicas = map held_replica replicas;
  granted = granted;
  requests = log.requests.items;
  messages = log.messages.items;
  happened = log.happened.items;
}

-- What the fields keep: the network is kept, and its replicas fit.
pub record IsNet (d : Specification) (w : World) (replicas : List Replica) (granted : List Granted)
    (log : Log) : Type 0 where
  pub kept : IsKept d w (network_in replicas granted log)
  pub fit : (r : ℕ) (at : Replica) → slice_get replicas r ≡ Some at
      → FitsIn d w at.node.state at.spare

-- Replicas before the first step.
pub record IsFirst (d : Specification) (w : World) (count : ℕ)
    (replicas : List Replica) : Type 0 where
  pub first : replicas_in replicas ≡ first_replicas d w 0 count
  pub fit : (r : ℕ) (at : Replica) → slice_get replicas r ≡ Some at
      → FitsIn d w at.node.state at.spare
