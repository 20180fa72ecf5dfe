use Rattle.std.proofs.Common.{◌++◌, ◌∷◌, map, sym, ◌∙◌, ap}
use Rattle.spec_core.proofs.Choosing.{each_before-below}
use Rattle.effectors.proofs.matching.all_before.Goals as goal

pub loop-element-preserved : goal.loop-element-preserved
loop-element-preserved c =
    c.in_ok-add_before.ensures ∙ ap (λ l. l ++ map (λ t. c.loop-element.element ∷ t) c.args.tuples.now) c.loop-element.invariant
    ∙ sym (each_before-below c.loop-element.element c.args.tuples.now)
