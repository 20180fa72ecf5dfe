use mir.Val.{to_z, of_z}
use mir.Syntax.{w128}
use Rattle.std.proofs.Common.{rules, ◌≡◌, true, subst, ℤ}
use Rattle.lin_rows.specs.Numbers.{in_range}
use Rattle.lin_rows.specs.Rows.{coefficient_at}
use Rattle.lin_rows.proofs.Kept.{rises_of}
use Rattle.lin_rows.proofs.CancellingLemmas.{in_range-coefficient}
use Rattle.lin_rows.proofs.combining.least_factors.Goals as goal

pub least_factor-requires-clause-other : goal.least_factor-requires-clause-other
least_factor-requires-clause-other c =
    let e : coefficient_at c.args.right.now.terms c.args.place ≡ to_z w128 (of_z w128 c.coefficient-lower.result) = search rules in
    subst (λ (z : ℤ). in_range z ≡ true) e (in_range-coefficient 0 c.args.place c.args.right.now.terms (rises_of c.args.right.now c.coefficient-lower.ensures.row))

pub least_factor-requires-2-clause-one : goal.least_factor-requires-2-clause-one
least_factor-requires-2-clause-one c =
    let e : coefficient_at c.args.right.now.terms c.args.place ≡ to_z w128 (of_z w128 c.coefficient-lower.result) = search rules in
    subst (λ (z : ℤ). in_range z ≡ true) e (in_range-coefficient 0 c.args.place c.args.right.now.terms (rises_of c.args.right.now c.coefficient-lower.ensures.row))
