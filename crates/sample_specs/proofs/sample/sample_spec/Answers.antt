use Rattle.sample_specs.proofs.WellFormed.{parts_well_formed}
use Rattle.sample_specs.proofs.sample.sample_spec.Goals as goal

pub invariant_of-spec : goal.invariant_of-spec
invariant_of-spec c =
    parts_well_formed c.args.n c.requires.some c.requires.few
    c.in_ok-sorts.sorts c.new.result c.in-Ok.value c.new-2.result c.in-Ok-tokens.value c.in-Ok-rules.value c.in-Ok-invariants.value c.in-Ok-operations.value
    c.in_ok-sorts.ensures c.new.ensures c.in-Ok.ensures c.new-2.ensures c.in-Ok-tokens.ensures c.in-Ok-rules.ensures c.in-Ok-invariants.ensures c.in-Ok-operations.ensures
