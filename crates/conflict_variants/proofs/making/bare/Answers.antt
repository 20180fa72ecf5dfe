use Rattle.std.proofs.Common.{◌≡◌, true, ap, subst, rules}
use Rattle.spec_core.specs.Specification.{Specification}
use Rattle.spec_core.specs.Typed.{is_specification}
use Rattle.conflict_variants.proofs.WellFormed.{bare_made_well_formed}
use Rattle.conflict_variants.proofs.making.bare.Goals as goal

pub made-requires : goal.made-requires
made-requires c =
    let formed : is_specification c.args.spec.now ≡ true = subst (λ (d : Specification). is_specification d ≡ true) c.spec.view_is c.spec.invariant in
    let copies = c.in_ok-operations.ensures in
    let same = ap (λ (d : Specification). d.operations) c.spec.view_is in
    bare_made_well_formed c.args.spec.now c.new.result c.new-2.result c.in_ok-operations.operations formed c.new.ensures c.new-2.ensures (search rules)
