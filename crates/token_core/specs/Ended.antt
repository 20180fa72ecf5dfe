-- A call that was run at a node, and what the node answers then; this mirrors src/node.rt.
use Rattle.token_protocol.specs.declared.message.Message.TheVariants as message
use Rattle.token_protocol.specs.declared.node.Begun.{Begun}
use Rattle.token_protocol.specs.declared.node.Begun.TheVariants as begun
use Rattle.token_protocol.specs.declared.node.Heard.{Heard}
use Rattle.token_protocol.specs.declared.node.Heard.TheVariants as heard
use Rattle.token_protocol.specs.Node.{Run, ran, void}
use Rattle.effectors.specs.declared.applying.ApplyRefused.{ApplyRefused}
use Rattle.effectors.specs.declared.applying.ApplyRefused.TheVariants as effect
use Rattle.token_protocol.specs.declared.node.NodeRefused.{NodeRefused}
use Rattle.token_protocol.specs.declared.node.NodeRefused.TheVariants as refusal
use Rattle.token_core.specs.declared.node.Ended.{Ended}
use Rattle.token_core.specs.declared.node.Ended.TheVariants.{Happened, Voided}

-- how a call ended that was run: it happened, or it is void, with the message that is to be sent
abbrev pub ended_of : Run → Ended
ended_of (ran id call seen node) = Happened (message.Done id call seen)
ended_of (void cause id node) = Voided cause (message.Void id)

-- what a node answers where a call that it made was run at once
abbrev pub begun_of : Ended → Begun
begun_of (Happened done) = begun.Ran done
begun_of (Voided cause told) = begun.Void cause told

-- what a node answers where a call that had waited was run
abbrev pub heard_of : Ended → Heard
heard_of (Happened done) = heard.Ran done
heard_of (Voided cause told) = heard.Void cause told

-- an effect's refusal is the node's
abbrev pub refused_effect : ApplyRefused → NodeRefused
refused_effect (effect.Range counter key value) = refusal.Range counter key value
refused_effect effect.Memory = refusal.Memory
