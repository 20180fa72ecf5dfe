use Rattle.std.proofs.Common.{◌∷◌, ◌++◌, map, ap, sym, ◌∙◌}
use Rattle.spec_core.proofs.Choosing.{each_before-below}
use Rattle.spec_core.proofs.tuples.all_with.Goals as goal

pub loop-e-preserved : goal.loop-e-preserved
loop-e-preserved c = c.in_ok-append_with.ensures ∙ ap (λ us. us ++ map (λ t. c.loop-e.e ∷ t) c.args.rests.now) c.loop-e.invariant ∙ sym (each_before-below c.loop-e.e c.args.rests.now)
