use Rattle.std.proofs.Common.{Ok, Err, Result, ◌≡◌, ◌⊎◌, inr, refl, ◌∙◌, ap, subst}
use Rattle.spec_core.specs.State.{reads}
use Rattle.effectors.specs.Effect.{after_call}
use Rattle.effectors.specs.Beyond.{first_beyond}
use Rattle.token_protocol.specs.declared.node.Heard.{Heard}
use Rattle.token_protocol.specs.declared.node.Heard.TheVariants as heard
use Rattle.token_protocol.specs.declared.node.NodeRefused.{NodeRefused}
use Rattle.token_protocol.specs.declared.node.NodeRefused.TheVariants as refusal
use Rattle.token_protocol.specs.Node.{take_within, hear_answer, node_after_hear}
use Rattle.token_core.specs.Held.{HeldNode, node_of}
use Rattle.token_core.specs.Ended.{refused_effect}
use Rattle.token_core.proofs.Taking.{node_took, answer_took, answer_refused}
use Rattle.token_core.proofs.node.Node.take.Goals as goal

pub returns-in_ok-push-in-Ok-clause-heard : goal.returns-in_ok-push-in-Ok-clause-heard
returns-in_ok-push-in-Ok-clause-heard g c =
    let d = g.R.Runner.specification c.args.runner.now in
    let w = g.R.Runner.setting c.args.runner.now in
    let n : HeldNode = record { replica = c.self.inside.replica; turn = c.self.inside.turn; state = c.self.inside.state; taken = c.self.inside.taken; void = c.self.inside.void; waiting = c.self.inside.waiting } in
    let after : HeldNode = record { replica = c.self.inside.replica; turn = c.self.inside.turn; state = c.move_to.new.state; taken = c.push.new.self; void = c.self.inside.void; waiting = c.self.inside.waiting } in
    record {
      answer = inr (subst (λ (n : HeldNode). (let a : Result Heard NodeRefused = Ok heard.Took in a) ≡ hear_answer (take_within d w (node_of n) c.args.id c.args.call.now (first_beyond 0 (after_call d w c.args.call.now (reads n.state)).counters))) c.self.view_is
          (answer_took d w n c.args.id c.args.call.now c.in-Ok.ensures.in_range));
      ok = subst (λ (n : HeldNode). node_of after ≡ node_after_hear (node_of n) (take_within d w (node_of n) c.args.id c.args.call.now (first_beyond 0 (after_call d w c.args.call.now (reads n.state)).counters))) c.self.view_is
          (node_took d w n c.args.id c.args.call.now c.move_to.new.state c.push.new.self c.in_ok-push-in-Ok.ensures.ok (ap reads c.move_to.ensures.state ∙ c.in-Ok.ensures.reads) c.in-Ok.ensures.in_range);
      err = tt;
    }

pub returns-in-Err-clause-heard : goal.returns-in-Err-clause-heard
returns-in-Err-clause-heard g c =
    let d = g.R.Runner.specification c.args.runner.now in
    let w = g.R.Runner.setting c.args.runner.now in
    let n : HeldNode = record { replica = c.self.inside.replica; turn = c.self.inside.turn; state = c.self.inside.state; taken = c.self.inside.taken; void = c.self.inside.void; waiting = c.self.inside.waiting } in
    let why = c.in-Err.why in
    record {
      answer = rw c.refused_effect.ensures
          (subst (λ (n : HeldNode). ((let a : Result Heard NodeRefused = Err (refused_effect why) in a) ≡ Err refusal.Memory) ⊎ ((let a : Result Heard NodeRefused = Err (refused_effect why) in a) ≡ hear_answer (take_within d w (node_of n) c.args.id c.args.call.now (first_beyond 0 (after_call d w c.args.call.now (reads n.state)).counters)))) c.self.view_is
          (answer_refused d w n c.args.id c.args.call.now why (λ b e. c.in-Err.ensures.range b (ap Err e))));
      ok = tt;
      err = refl;
    }
