-- A call that is run at a node, with a turn used up or none waiting.
use Rattle.std.specs.Prelude.{Bool, true, cond, Option, None, Some, Result, Ok}
use Rattle.std.proofs.Common.{◌≡◌, inr, refl, sym, ap, ◌∙◌}
use Rattle.spec_core.specs.declared.world.World.{World}
use Rattle.spec_core.specs.declared.world.Call.{Call}
use Rattle.spec_core.specs.Specification.{Specification}
use Rattle.token_protocol.specs.declared.message.EventId.{EventId}
use Rattle.token_protocol.specs.declared.message.Request.{Request}
use Rattle.token_protocol.specs.declared.node.WhyVoid.{WhyVoid}
use Rattle.token_protocol.specs.declared.node.Begun.{Begun}
use Rattle.token_protocol.specs.declared.node.Heard.{Heard}
use Rattle.token_protocol.specs.declared.node.NodeRefused.{NodeRefused}
use Rattle.token_protocol.specs.Node.{Node, Run, ran, void, run, run_with, why_void, with_turn, with_waiting, without_waiting, takes_none, turn_of, waits, runs, begin_answer, node_after_begin, grants, node_after_run, begun_run, heard_run}
use Rattle.token_core.specs.declared.node.Ended.{Ended}
use Rattle.token_core.specs.Held.{HeldNode, node_of}
use Rattle.token_core.specs.Ended.{ended_of, begun_of, heard_of}
use Rattle.token_core.specs.Answered.{HasBegun, HasHeard}

module _ (d : Specification) (w : World) (n : Node) (id : EventId) (call : Call) where
  turn_with : (o : Option WhyVoid) → node_after_run (run_with d w (with_turn n) id call o) ≡ with_turn (node_after_run (run_with d w n id call o))
  turn_with None = refl
  turn_with (Some cause) = refl

  pub turn_run : node_after_run (run d w (with_turn n) id call) ≡ with_turn (node_after_run (run d w n id call))
  turn_run = turn_with (why_void d w n.state call)

  turned_with : (o : Option WhyVoid) → ended_of (run_with d w (with_turn n) id call o) ≡ ended_of (run_with d w n id call o)
  turned_with None = refl
  turned_with (Some cause) = refl

  pub turn_ended : ended_of (run d w (with_turn n) id call) ≡ ended_of (run d w n id call)
  turn_ended = turned_with (why_void d w n.state call)

  idle_with : (o : Option WhyVoid) → node_after_run (run_with d w (without_waiting n) id call o) ≡ without_waiting (node_after_run (run_with d w n id call o))
  idle_with None = refl
  idle_with (Some cause) = refl

  pub idle_run : node_after_run (run d w (without_waiting n) id call) ≡ without_waiting (node_after_run (run d w n id call))
  idle_run = idle_with (why_void d w n.state call)

  idled_with : (o : Option WhyVoid) → ended_of (run_with d w (without_waiting n) id call o) ≡ ended_of (run_with d w n id call o)
  idled_with None = refl
  idled_with (Some cause) = refl

  pub idle_ended : ended_of (run d w (without_waiting n) id call) ≡ ended_of (run d w n id call)
  idle_ended = idled_with (why_void d w n.state call)

pub begun_ended : (r : Run) → begun_of (ended_of r) ≡ begun_run r
begun_ended (ran id call seen node) = refl
begun_ended (void cause id node) = refl

pub heard_ended : (r : Run) → heard_of (ended_of r) ≡ heard_run r
heard_ended (ran id call seen node) = refl
heard_ended (void cause id node) = refl

-- ---- a call that was run at a node is answered

module _ (d : Specification) (w : World) (old mid : HeldNode) (id : EventId) (call copy : Call) (ended : Ended)
    (same : copy ≡ call) (told : ended ≡ ended_of (run d w (node_of old) id copy)) (left : node_of mid ≡ node_after_run (run d w (node_of old) id copy)) where
  turn_is : takes_none d call ≡ true → turn_of d w (node_of old) id call ≡ runs (run d w (with_turn (node_of old)) id call)
  turn_is free =
      let request : Request = record { id = id; call = call } in
      ap (λ (b : Bool). cond b (runs (run d w (with_turn (node_of old)) id call)) (waits request (with_waiting (with_turn (node_of old)) request))) free

  -- a call without a takes line, which uses up a turn
  pub next_begun : (after : HeldNode) (result : Begun) → result ≡ begun_of ended → takes_none d call ≡ true → node_of after ≡ with_turn (node_of mid)
      → HasBegun old after (turn_of d w (node_of old) id call) (let r : Result Begun NodeRefused = Ok result in r)
  next_begun after result is free turned =
      let n = node_of old in
      let ended_is = told ∙ ap (λ (x : Call). ended_of (run d w n id x)) same ∙ sym (turn_ended d w n id call) in
      record {
        answer = inr (ap (λ (b : Begun). let r : Result Begun NodeRefused = Ok b in r) (is ∙ ap begun_of ended_is ∙ begun_ended (run d w (with_turn n) id call)) ∙ ap begin_answer (sym (turn_is free)));
        ok = turned ∙ ap with_turn (left ∙ ap (λ (x : Call). node_after_run (run d w n id x)) same) ∙ sym (turn_run d w n id call) ∙ ap (node_after_begin n) (sym (turn_is free));
        err = tt;
      }

  -- the call that waited, which waits no longer
  pub waiting_heard : (after : HeldNode) (result : Heard) → result ≡ heard_of ended → node_of after ≡ without_waiting (node_of mid)
      → HasHeard old after (grants (run d w (without_waiting (node_of old)) id call)) (let r : Result Heard NodeRefused = Ok result in r)
  waiting_heard after result is idle =
      let n = node_of old in
      let ended_is = told ∙ ap (λ (x : Call). ended_of (run d w n id x)) same ∙ sym (idle_ended d w n id call) in
      record {
        answer = inr (ap (λ (b : Heard). let r : Result Heard NodeRefused = Ok b in r) (is ∙ ap heard_of ended_is ∙ heard_ended (run d w (without_waiting n) id call)));
        ok = idle ∙ ap without_waiting (left ∙ ap (λ (x : Call). node_after_run (run d w n id x)) same) ∙ sym (idle_run d w n id call);
        err = tt;
      }
