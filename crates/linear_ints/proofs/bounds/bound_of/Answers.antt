use Rattle.std.proofs.Common.{rules, sym, subst, ℤ, FitsSigned, to_z-of_z}
use mir.Syntax.{w128}
use Rattle.linear_ints.specs.Bounds.{IsBoundAt}
use Rattle.linear_ints.proofs.bounds.bound_of.Goals as goal

pub returns-in-Some-bound_with : goal.returns-in-Some-bound_with
returns-in-Some-bound_with c =
    let f : FitsSigned w128 c.in-Some.rest = search rules in
    let g : FitsSigned w128 c.in-Some-bound_with.value = search rules in
    let k = simp to_z-of_z at c.in-Some-bound_with.ensures in
    subst (λ (v : ℤ). IsBoundAt c.args.values.now c.args.place c.args.row.now v) (sym (to_z-of_z g)) (record { rest = c.in-Some.rest; rest_is = sym c.in-Some.ensures; bound_is = k })

pub returns-in-None-bound_with : goal.returns-in-None-bound_with
returns-in-None-bound_with c =
    let f : FitsSigned w128 c.in-Some.rest = search rules in
    let k = simp to_z-of_z at c.in-None-bound_with.ensures in
    (c.in-Some.rest, sym c.in-Some.ensures, k)
