use Rattle.std.proofs.Common.{arith, sym, ap, ◌∙◌, refl}
use Rattle.stage_defs.specs.Settings.{readings_in, caller_in}
use Rattle.ground_groups.specs.Limited.{made_with}
use Rattle.ground_groups.specs.Calls.{constants_in}
use Rattle.ground_groups.specs.Lines.{line_at, lines_at}
use Rattle.ground_groups.proofs.Lists.{pair_next, pair_step, pair_refused}
use Rattle.ground_groups.proofs.Ends.{lines_end}
use Rattle.ground_groups.proofs.entry.add_lines.Goals as goal

pub returns-in-Err : goal.returns-in-Err
returns-in-Err c =
    let z = constants_in c.args.named.now in let r = readings_in c.args.setting.now in let k = caller_in c.args.setting.now in
    let i = c.loop-place.place in
    let next = pair_next (lines_at z r k) (λ n l own. line_at z r k l own) (λ n x y xs ys. refl) c.args.lines.now c.args.owns.now i c.index-lines-place.result c.index-owns-place.result
    (omega (arith, c.loop-place-test.true, c.min-count.ensures)) (omega (arith, c.loop-place-test.true, c.min-count.ensures)) c.index-lines-place.is c.index-owns-place.is in
    pair_refused _ _ _ next _ _ _ _ _ c.loop-place.invariant c.in-Err.ensures

pub loop-place-preserved : goal.loop-place-preserved
loop-place-preserved c =
    let z = constants_in c.args.named.now in let r = readings_in c.args.setting.now in let k = caller_in c.args.setting.now in
    let i = c.loop-place.place in
    let next = pair_next (lines_at z r k) (λ n l own. line_at z r k l own) (λ n x y xs ys. refl) c.args.lines.now c.args.owns.now i c.index-lines-place.result c.index-owns-place.result
    (omega (arith, c.loop-place-test.true, c.min-count.ensures)) (omega (arith, c.loop-place-test.true, c.min-count.ensures)) c.index-lines-place.is c.index-owns-place.is in
    pair_step _ _ _ next _ _ _ _ c.in-Ok.ensures ∙ c.loop-place.invariant

pub returns : goal.returns
returns c =
    let z = constants_in c.args.named.now in let r = readings_in c.args.setting.now in let k = caller_in c.args.setting.now in
    sym c.loop-place.invariant
    ∙ ap (made_with c.loop-place.grounding) (lines_end z r k c.loop-place.place c.args.lines.now c.args.owns.now c.loop-place.place (omega (arith, c.loop-place-test.false, c.loop-place.auto.place-end, c.min-count.ensures)))
