-- What a node answers to a call and to a message, and what it leaves; this mirrors src/node.rt.
use Rattle.std.specs.Prelude.{◌≡◌, ◌⊎◌, Result, Err, IfOk, OnOk, OnErr}
use Rattle.spec_core.specs.declared.world.Call.{Call}
use Rattle.token_protocol.specs.declared.message.EventId.{EventId}
use Rattle.token_protocol.specs.declared.message.Request.{Request}
use Rattle.token_protocol.specs.declared.node.Begun.{Begun}
use Rattle.token_protocol.specs.declared.node.Heard.{Heard}
use Rattle.token_protocol.specs.declared.node.NodeRefused.{NodeRefused}
use Rattle.token_protocol.specs.declared.node.NodeRefused.TheVariants as refusal
use Rattle.token_protocol.specs.Node.{Node, Run, Begin, waits, Hear, with_turn, with_waiting, node_after_run, node_after_begin, begin_answer, node_after_hear, hear_answer}
use Rattle.token_core.specs.declared.node.Ended.{Ended}
use Rattle.token_core.specs.Held.{HeldNode, node_of}
use Rattle.token_core.specs.Ended.{ended_of}

-- a call that waits for a grant, with its turn used up
abbrev pub waiting_turn : Node → EventId → Call → Begin
waiting_turn node id call =
    (let request : Request = record { id = id; call = call } in
    waits request (with_waiting (with_turn node) request))

-- A call was run: it ended so, and left the node so. Where memory was wanting, nothing changed.
pub record HasRun {E : Type 0} (old new : HeldNode) (run : Run)
    (result : Result Ended E) : Type 0 where
  pub ended : IfOk result (λ ended. ended ≡ ended_of run)
  pub node : OnOk result (node_of new ≡ node_after_run run)
  pub err : OnErr result (new ≡ old)

-- A node was called: it answers so, or that memory is wanting. An answer leaves the node so, and a refusal changes nothing.
pub record HasBegun (old new : HeldNode) (begin : Begin)
    (result : Result Begun NodeRefused) : Type 0 where
  pub answer : (result ≡ Err refusal.Memory) ⊎ (result ≡ begin_answer begin)
  pub ok : OnOk result (node_of new ≡ node_after_begin (node_of old) begin)
  pub err : OnErr result (new ≡ old)

-- A node got a message: it answers so, or that memory is wanting. An answer leaves the node so, and a refusal changes nothing.
pub record HasHeard (old new : HeldNode) (hear : Hear)
    (result : Result Heard NodeRefused) : Type 0 where
  pub answer : (result ≡ Err refusal.Memory) ⊎ (result ≡ hear_answer hear)
  pub ok : OnOk result (node_of new ≡ node_after_hear (node_of old) hear)
  pub err : OnErr result (new ≡ old)
