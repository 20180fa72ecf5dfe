use Rattle.std.proofs.Common.{rules, ℤ, List, ◌+◌, sym, subst, FitsSigned, to_z-of_z}
use mir.Syntax.{w128}
use Rattle.linear_ints.specs.Descending.{IsDescent}
use Rattle.linear_ints.proofs.Descents.{place-in, put-done}
use Rattle.linear_ints.proofs.descend.choose_value.Goals as goal

pub value_at-requires-clause-descent : goal.value_at-requires-clause-descent
value_at-requires-clause-descent c = subst (λ (l : List ℤ). IsDescent c.args.tableau.now (c.args.stage + 1) l) (sym c.as_slice-seen.ensures.value) c.requires.descent

pub put-requires : goal.put-requires
put-requires c = place-in c.args.rows.now c.args.tableau.now c.args.stage c.args.values.now.items c.place_of-place.result c.requires.elimination c.requires.stage c.requires.descent c.place_of-place.ensures

pub returns-in-Ok : goal.returns-in-Ok
returns-in-Ok c =
    let f : FitsSigned w128 c.in-Ok.value = search rules in
    put-done c.args.tableau.now c.args.stage c.as_slice-seen.result.now c.args.values.now.items c.put.new.values.items c.place_of-place.result c.in-Ok.value _ c.in-Ok.ensures c.as_slice-seen.ensures.value c.place_of-place.ensures (to_z-of_z f) c.put.ensures
