-- A network as a program holds it: the states of its nodes are listed.
use Rattle.std.specs.Prelude.{ℕ, List, map}
use Rattle.spec_core.specs.declared.world.World.{World}
use Rattle.spec_core.specs.Specification.{Specification}
use Rattle.token_protocol.specs.declared.message.Request.{Request}
use Rattle.token_protocol.specs.declared.message.Message.{Message}
use Rattle.token_protocol.specs.declared.granted.Granted.{Granted}
use Rattle.token_protocol.specs.Network.{Network, Replica, Happened}
use Rattle.token_core.specs.Held.{HeldNode, node_of}

-- a replica: its node, and the numbers of the events that it has taken, in that order
pub record HeldReplica : Type 0 where
  pub node : HeldNode
  pub taken : List ℕ

-- the replica that is held
abbrev pub replica_of : HeldReplica → Replica
replica_of r = record { node = node_of r.node; taken = r.taken }

-- A network of a specification in a world, and how many steps of it were carried out.
pub record HeldNet : Type 0 where
  pub spec : Specification
  pub world : World
  pub steps : ℕ
  pub replicas : List HeldReplica
  pub granted : List Granted
  pub requests : List Request
  pub messages : List Message
  pub happened : List Happened

-- the network that is held
abbrev pub network_held : HeldNet → Network
network_held n = record {
  replicas = map replica_of n.replicas;
  granted = n.granted;
  requests = n.requests;
  messages = n.messages;
  happened = n.happened;
}
