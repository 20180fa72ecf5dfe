use Rattle.std.proofs.Common.{arith, None, [], take, sym, refl, ap, ◌∙◌}
use Rattle.std.specs.Option.{option_map}
use Rattle.ground_problem.specs.Entry.{one_element_each}
use Rattle.ground_atoms.specs.Formulas.{form_of}
use Rattle.stage_defs.specs.Parts.{make_parts, made_parts}
use Rattle.stage_defs.proofs.Joined.{all_parts-is}
use Rattle.ground_groups.proofs.Joining.{each_step, each_end, each_from-is}
use Rattle.ground_groups.proofs.conflicting.one_element_each.Goals as goal

pub loop-place-preserved : goal.loop-place-preserved
loop-place-preserved c =
    each_step c.args.vars.now c.args.consts.now c.loop-place.place (omega (arith, c.loop-place-test.true, c.min-count.ensures)) (omega (arith, c.loop-place-test.true, c.min-count.ensures))
    _ _ _ _ c.in_ok-done.ensures
    ∙ c.loop-place.invariant

pub returns : goal.returns
returns c =
    let vs = c.args.vars.now in let cs = c.args.consts.now in let k = c.loop-place.atoms in
    all_parts-is c.args.atoms.now (one_element_each [] vs cs)
    ∙ ap made_parts (ap (make_parts None c.args.atoms.now) (sym (each_from-is vs cs [] [] (λ w. refl))) ∙ sym c.loop-place.invariant
    ∙ ap (make_parts (option_map form_of c.loop-place.done) k) (each_end (take c.loop-place.place vs) vs cs c.loop-place.place (omega (arith, c.loop-place-test.false, c.loop-place.auto.place-end, c.min-count.ensures))))
    ∙ (λ i. record { known = k; form = sym c.all_of-all.ensures i })
