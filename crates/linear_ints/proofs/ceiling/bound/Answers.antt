use Rattle.std.proofs.Common.{rules, sym, ◌∙◌, FitsSigned, to_z-of_z}
use mir.Syntax.{w128}
use Rattle.linear_ints.proofs.Ceilings.{bound_up, bound_down}
use Rattle.linear_ints.proofs.ceiling.bound.Goals as goal

pub returns-then-is_above : goal.returns-then-is_above
returns-then-is_above c =
    let f : FitsSigned w128 c.next.result = search rules in
    bound_up c.args.more.now c.args.less.now _ c.args.by c.distance-gap.result c.requires (sym c.is_above.ensures ∙ c.if-is_above.true) c.distance-gap.ensures (sym c.is_beyond.ensures ∙ c.if-is_beyond.false) (to_z-of_z f ∙ c.next.ensures)

pub returns-else-is_above : goal.returns-else-is_above
returns-else-is_above c =
    let f : FitsSigned w128 c.taken.result = search rules in
    bound_down c.args.more.now c.args.less.now _ c.args.by c.distance-gap.result c.requires (sym c.is_above.ensures ∙ c.if-is_above.false) c.distance-gap.ensures (to_z-of_z f ∙ c.taken.ensures)
