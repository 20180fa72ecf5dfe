use Rattle.std.proofs.Common.{rules, ◌-ℤ◌, ◌∙◌, arith, FitsSigned, to_z-of_z}
use mir.Syntax.{w128}
use Rattle.diff_bounds.proofs.Modelling.{values-next}
use Rattle.diff_bounds.proofs.Pushing.{now-low}
use Rattle.diff_bounds.proofs.values.values_of.Goals as goal

pub difference-requires-clause-a_low : goal.difference-requires-clause-a_low
difference-requires-clause-a_low c =
    now-low c.args.walks.now.ints c.args.edges.now c.args.walks.now.visits.items c.args.walks.now.latest.items c.requires c.loop-place.place c.now_at-visit.result (omega (arith, c.loop-place-test.true)) c.now_at-visit.ensures

pub difference-requires-clause-b_low : goal.difference-requires-clause-b_low
difference-requires-clause-b_low c =
    now-low c.args.walks.now.ints c.args.edges.now c.args.walks.now.visits.items c.args.walks.now.latest.items c.requires c.args.walks.now.ints c.now_at-zero.result (omega arith) c.now_at-zero.ensures

pub loop-place-preserved : goal.loop-place-preserved
loop-place-preserved c =
    let f : FitsSigned w128 c.difference.result = search rules in
    values-next c.args.walks.now.ints c.loop-place.place c.args.walks.now.visits.items c.args.walks.now.latest.items c.loop-place.values _ c.push.new.self c.loop-place.invariant
    (to_z-of_z f ∙ c.difference.ensures ∙ (λ i. (c.now_at-visit.ensures i).value -ℤ (c.now_at-zero.ensures i).value)) c.in_ok-push.ensures.ok
