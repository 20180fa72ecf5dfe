use Rattle.std.proofs.Common.{Some, Err, ℤ, sym, ◌∙◌, ap, rules, FitsSigned}
use mir.Syntax.{w128}
use Rattle.std.proofs.lemmas.Int.{to_z-of_z}
use Rattle.spec_core.specs.State.{reads}
use Rattle.effectors.specs.Effect.{after_call}
use Rattle.effectors.specs.Beyond.{Beyond}
use Rattle.effectors.proofs.FirstBeyond.{first_is, is_none}
use Rattle.token_protocol.specs.declared.node.WhyVoid.{WhyVoid}
use Rattle.token_protocol.specs.declared.node.WhyVoid.TheVariants.{Range}
use Rattle.replica_replay.proofs.Causes.{not_void, void_by_range}
use Rattle.replica_replay.proofs.trying.try_effect.Goals as goal

pub returns-in-Ok : goal.returns-in-Ok
returns-in-Ok g c =
    let d = g.R.Runner.specification c.args.runner.now in
    let w = g.R.Runner.setting c.args.runner.now in
    let r = reads c.args.state.now in
    (not_void d w r c.args.call.now c.requires.ready c.requires.observed (is_none (after_call d w c.args.call.now r) c.in-Ok.ensures.in_range), c.in-Ok.ensures.fits, c.in-Ok.ensures.reads)

pub returns-in-Err-Range : goal.returns-in-Err-Range
returns-in-Err-Range g c =
    let d = g.R.Runner.specification c.args.runner.now in
    let w = g.R.Runner.setting c.args.runner.now in
    let r = reads c.args.state.now in
    let b : Beyond = record { counter = c.in-Err-Range.counter; key = c.in-Err-Range.key; value = c.in-Err-Range.value } in
    let f : FitsSigned w128 c.in-Err-Range.value = search rules in
    void_by_range d w r c.args.call.now b c.requires.ready c.requires.observed (first_is (after_call d w c.args.call.now r) b (c.in-Err-Range.ensures.range b (ap Err c.in-Err-Range.field-0-is)))
    ∙ ap (λ (z : ℤ). let why : WhyVoid = Range c.in-Err-Range.counter c.in-Err-Range.key z in Some why) (sym (to_z-of_z w128 c.in-Err-Range.value f))
