use Rattle.std.proofs.Common.{None, Some, refl, subst, sym}
use Rattle.spec_core.specs.declared.world.World.{World}
use Rattle.replay_text.specs.Asked.{AllHeld}
use Rattle.replay_text.specs.declared.writing.Stepped.{Stepped}
use Rattle.replay_text.specs.Reached.{IsStepped}
use Rattle.replay_text.proofs.Going.{ends_broken, leads_on, ends_refused, ends_done}
use Rattle.replay_text.proofs.writing.write_steps.Goals as goal

pub returns-in-Broken-clause-reached : goal.returns-in-Broken-clause-reached
returns-in-Broken-clause-reached g c =
    let step = subst (λ (s : Stepped). IsStepped c.args.spec.now c.loop-number.replay.world c.loop-number.replay.held c.index-steps-number.result s c.carry_out.new.replay.held) c.in-Broken.is c.in_ok-event.ensures.stepped in
    ends_broken c.args.spec.now c.args.replay.now.world c.args.replay.now.held c.args.steps.now c.args.text.now.items c.loop-number.text.items c.loop-number.number
    c.loop-number.replay c.loop-number.invariant c.index-steps-number.result c.loop-number-test.true c.index-steps-number.is
    c.in-Broken.event (Some c.in-Broken.place) c.carry_out.new.replay step c.push_step-in-Broken.new.text.items c.in_ok-push_step-in-Broken.ensures c.in-Broken.place refl

pub loop-number-preserved : goal.loop-number-preserved
loop-number-preserved g c =
    let step = subst (λ (s : Stepped). IsStepped c.args.spec.now c.loop-number.replay.world c.loop-number.replay.held c.index-steps-number.result s c.carry_out.new.replay.held) c.in-Accepted.is c.in_ok-event.ensures.stepped in
    leads_on c.args.spec.now c.args.replay.now.world c.args.replay.now.held c.args.steps.now c.args.text.now.items c.loop-number.text.items c.loop-number.number
    c.loop-number.replay c.loop-number.invariant c.index-steps-number.result c.loop-number-test.true c.index-steps-number.is
    c.in-Accepted.event None c.carry_out.new.replay step c.push_step.new.text.items c.in_ok-push_step-in-Accepted.ensures refl
    c.in_ok-event.ensures.setting.world c.in_ok-event.ensures.setting.spec c.is_held.ensures

pub carry_out-requires-clause-holds : goal.carry_out-requires-clause-holds
carry_out-requires-clause-holds g c =
    subst (λ (w : World). AllHeld c.args.spec.now w c.loop-number.replay.held) (sym c.loop-number.invariant.world_is) c.loop-number.invariant.holds

pub returns-in-Refused-clause-reached : goal.returns-in-Refused-clause-reached
returns-in-Refused-clause-reached g c =
    let step = subst (λ (s : Stepped). IsStepped c.args.spec.now c.loop-number.replay.world c.loop-number.replay.held c.index-steps-number.result s c.carry_out.new.replay.held) c.in-Refused.is c.in_ok-event.ensures.stepped in
    ends_refused c.args.spec.now c.args.replay.now.world c.args.replay.now.held c.args.steps.now c.args.text.now.items c.loop-number.text.items c.loop-number.number
    c.loop-number.replay c.loop-number.invariant c.index-steps-number.result c.loop-number-test.true c.index-steps-number.is
    c.in-Refused.why c.carry_out.new.replay.held step

pub returns-clause-reached : goal.returns-clause-reached
returns-clause-reached g c =
    ends_done c.args.spec.now c.args.replay.now.world c.args.replay.now.held c.args.steps.now c.args.text.now.items c.loop-number.text.items c.loop-number.number
    c.loop-number.replay c.loop-number.invariant c.loop-number-test.false c.loop-number.auto.number-end
