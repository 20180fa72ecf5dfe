use Rattle.std.proofs.Common.{◌∙◌, ap}
use Rattle.spec_core.specs.Specification.{Specification}
use Rattle.conflict_variants.proofs.Keying.{keyed_added_in}
use Rattle.conflict_variants.proofs.making.keyed_operations.Goals as goal

pub loop-number-preserved : goal.loop-number-preserved
loop-number-preserved c =
    keyed_added_in c.args.key.first c.args.key.p c.args.key.second c.args.key.q c.as_slice-operation-items.result.now c.args.spec.now.operations (c.as_slice-operation-items.ensures ∙ ap (λ (s : Specification). s.operations) c.spec.view_is) c.loop-number.number c.operation-item.result c.loop-number.copies c.push.new.self c.in-Ok.value
    c.loop-number-test.true c.operation-item.is c.loop-number.invariant c.in-Ok.ensures c.in-Ok-push.ensures.ok
