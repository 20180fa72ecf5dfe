-- A node as a program holds it: its state is listed.
use Rattle.std.specs.Prelude.{◌≡◌, ℕ, Bool, true, List, Option, None, Some}
use Rattle.spec_core.specs.declared.world.World.{World}
use Rattle.spec_core.specs.Specification.{Specification}
use Rattle.spec_core.specs.State.{Listing, reads}
use Rattle.spec_core.specs.Fits.{call_fits, is_state}
use Rattle.effectors.specs.Spare.{IsSpare}
use Rattle.token_protocol.specs.declared.message.EventId.{EventId}
use Rattle.token_protocol.specs.declared.message.Request.{Request}
use Rattle.token_protocol.specs.declared.message.Message.{Message}
use Rattle.token_protocol.specs.declared.message.Message.TheVariants as message
use Rattle.token_protocol.specs.Node.{Node}

-- a node whose state is a listing
pub record HeldNode : Type 0 where
  pub replica : ℕ
  pub turn : ℕ
  pub state : Listing
  pub taken : List EventId
  pub void : List EventId
  pub waiting : Option Request

-- the node that it is, with what the listing reads as its state
abbrev pub node_of : HeldNode → Node
node_of n = record {
  replica = n.replica;
  turn = n.turn;
  state = reads n.state;
  taken = n.taken;
  void = n.void;
  waiting = n.waiting;
}

-- A node's state is one of the world, and so is the spare one beside it, if there is one, which reads alike.
pub record FitsIn (d : Specification) (w : World) (held : Listing)
    (beside : Option Listing) : Type 0 where
  pub state : is_state d w held ≡ true
  pub spare : IsSpare d w held beside

-- the call that waits, if one does, has the arguments of its operation
abbrev pub waiting_fits : Specification → World → Option Request → Bool
waiting_fits d w None = true
waiting_fits d w (Some request) = call_fits d w request.call

-- the call of a Done has the arguments of its operation
abbrev pub message_fits : Specification → World → Message → Bool
message_fits d w (message.Grant id named) = true
message_fits d w (message.Done id call seen) = call_fits d w call
message_fits d w (message.Void id) = true
