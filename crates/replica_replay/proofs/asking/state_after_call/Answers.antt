use Rattle.std.proofs.Common.{inr, None, Some, Err, ℤ, sym, ◌∙◌, ap, rules, FitsSigned}
use Rattle.std.specs.Prelude.{Option}
use mir.Syntax.{w128}
use Rattle.std.proofs.lemmas.Int.{to_z-of_z}
use Rattle.spec_core.specs.State.{reads}
use Rattle.effectors.specs.Effect.{after_call}
use Rattle.effectors.specs.Beyond.{Beyond}
use Rattle.effectors.proofs.FirstBeyond.{first_is, is_none}
use Rattle.replica_replay.specs.declared.step.StepRefused.{StepRefused}
use Rattle.replica_replay.specs.declared.step.StepRefused.TheVariants.{Range}
use Rattle.replica_replay.specs.Refusals.{unless, beyond_range}
use Rattle.replica_replay.proofs.asking.state_after_call.Goals as goal

pub returns-in-Ok-clause-ok : goal.returns-in-Ok-clause-ok
returns-in-Ok-clause-ok g c =
    let s = after_call (g.R.Runner.specification c.args.runner.now) (g.R.Runner.setting c.args.runner.now) c.args.call.now (reads c.args.at.now.state) in
    ap (λ (o : Option Beyond). unless o beyond_range None) (is_none s c.in-Ok.ensures.in_range)

pub returns-in-Err-Range-clause-err : goal.returns-in-Err-Range-clause-err
returns-in-Err-Range-clause-err g c =
    let s = after_call (g.R.Runner.specification c.args.runner.now) (g.R.Runner.setting c.args.runner.now) c.args.call.now (reads c.args.at.now.state) in
    let b : Beyond = record { counter = c.in-Err-Range.counter; key = c.in-Err-Range.key; value = c.in-Err-Range.value } in
    let f : FitsSigned w128 c.in-Err-Range.value = search rules in
    inr (ap (λ (o : Option Beyond). unless o beyond_range None) (first_is s b (c.in-Err-Range.ensures.range b (ap Err c.in-Err-Range.field-0-is)))
    ∙ ap (λ (z : ℤ). let why : StepRefused = Range c.in-Err-Range.counter c.in-Err-Range.key z in Some why) (sym (to_z-of_z w128 c.in-Err-Range.value f)))
