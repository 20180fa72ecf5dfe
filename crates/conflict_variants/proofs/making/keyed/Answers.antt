use Rattle.std.proofs.Common.{◌∙◌, ap}
use Rattle.spec_core.specs.Typed.{is_specification}
use Rattle.conflict_variants.proofs.Keying.{keyed_made}
use Rattle.conflict_variants.proofs.WellFormed.{keyed_well_formed}
use Rattle.conflict_variants.proofs.making.keyed.Goals as goal

pub made-requires : goal.made-requires
made-requires c =
    ap is_specification (keyed_made c.args.spec.now c.args.first c.args.p c.args.second c.args.q c.key_sort-sort.result c.in_ok-tokens.tokens c.in-Ok.value c.in-Ok-keyed_operations.value
    c.key_sort-sort.ensures c.in_ok-tokens.ensures c.in-Ok.ensures c.in-Ok-keyed_operations.ensures)
    ∙ keyed_well_formed c.args.spec.now c.args.first c.args.p c.args.second c.args.q c.well_formed-2.ensures c.requires

pub returns : goal.returns
returns c =
    c.in_ok-keyed.ensures
    ∙ keyed_made c.args.spec.now c.args.first c.args.p c.args.second c.args.q c.key_sort-sort.result c.in_ok-tokens.tokens c.in-Ok.value c.in-Ok-keyed_operations.value
    c.key_sort-sort.ensures c.in_ok-tokens.ensures c.in-Ok.ensures c.in-Ok-keyed_operations.ensures
