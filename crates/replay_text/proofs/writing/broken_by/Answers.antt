use Rattle.std.proofs.Common.{◌≡◌, [], get_or, Some, sym, ◌∙◌, ap}
use Rattle.spec_core.specs.declared.world.World.{World}
use Rattle.spec_core.specs.declared.world.Call.{Call}
use Rattle.spec_core.specs.Specification.{Specification}
use Rattle.spec_core.specs.Meaning.{broken_at}
use Rattle.spec_core.specs.State.{reads}
use Rattle.effectors.specs.Effect.{after}
use Rattle.replica_replay.specs.Steps.{state_of}
use Rattle.replay_text.specs.Course.{state_at}
use Rattle.replay_text.proofs.writing.broken_by.Goals as goal

one_call : (a b : Call) → Some a ≡ Some b → a ≡ b
one_call a b h = cc h

pub returns : goal.returns
returns g c =
    let d = c.args.spec.now in let p = c.args.replay.now in let l = c.requires.led in
    let state : reads c.state_of.result.now ≡ state_at d p.world p.held c.args.replica
    = c.state_of.ensures.reads ∙ ap (λ (x : Specification). state_of x p.world p.held (get_or p.held.taken c.args.replica [])) c.requires.replica.spec in
    let call : l.call ≡ c.call_of.result.now = one_call l.call c.call_of.result.now (sym l.is_call ∙ c.call_of.ensures) in
    let went : reads c.state_of.result.now ≡ after d c.world.result.now c.call_of.result.now l.before
    = state ∙ l.leads ∙ (λ i. after d (sym c.world.ensures.value i) (call i) l.before) in
    let none = ap (λ (w : World). broken_at d w l.before) c.world.ensures.value ∙ l.held_before in
    c.invariant_broken_after.ensures l.before went none
    ∙ ap (λ (w : World). broken_at d w (reads c.state_of.result.now)) c.world.ensures.value
    ∙ ap (broken_at d p.world) state
