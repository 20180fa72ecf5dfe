use Rattle.std.proofs.Common.{refl, sym, ap, ◌∙◌}
use Rattle.spec_core.specs.declared.world.Call.{Call}
use Rattle.spec_core.specs.Specification.{Specification}
use Rattle.replica_replay.specs.Steps.{operation_named}
use Rattle.simulate_text.specs.Course.{calls, begins}
use Rattle.simulate_text.specs.Reached.{simulated_in}
use Rattle.simulate_text.proofs.Carrying.{does_from, calls_part}
use Rattle.simulate_text.proofs.writing.call_named.Goals as goal

pub returns : goal.returns
returns g c =
    let old = c.args.sim.now in let r = c.args.replica in
    let call : Call = record { op = c.in-Some.op; args = c.in_ok-args.args } in
    does_from c.call.result (λ d w. begins d w r call) (λ d w. calls d w r c.args.args.now (operation_named d c.args.name.now)) old old c.call.new.self refl
    (λ d w asked. (
      asked,
      calls_part d w (simulated_in old) r c.in-Some.op c.args.name.now c.args.args.now c.in_ok-args.args
          (ap (λ (x : Specification). operation_named x c.args.name.now) (sym (c.spec.ensures ∙ c.runner.ensures.spec ∙ asked.of.spec)) ∙ sym c.operation_named.ensures ∙ c.in-Some.is)
          c.in_ok-args.ensures,
    ))
    c.call.ensures
