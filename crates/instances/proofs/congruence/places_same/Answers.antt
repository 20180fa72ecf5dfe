use Rattle.std.proofs.Common.{arith, sym, ap, ◌∙◌}
use Rattle.std.specs.Option.{option_map}
use Rattle.ground_problem.specs.Equality.{tuples_same}
use Rattle.ground_atoms.specs.Formulas.{form_of}
use Rattle.stage_defs.specs.Parts.{made_parts}
use Rattle.stage_defs.proofs.Joined.{all_parts-is}
use Rattle.instances.proofs.Tuples.{same_step, same_done}
use Rattle.instances.proofs.congruence.places_same.Goals as goal

pub loop-place-preserved : goal.loop-place-preserved
loop-place-preserved c =
    same_step c.args.left.now c.args.right.now c.loop-place.place (omega (arith, c.loop-place-test.true, c.min-count.ensures)) (omega (arith, c.loop-place-test.true, c.min-count.ensures)) _ _ _ _ c.in_ok-done.ensures
    ∙ c.loop-place.invariant

pub returns : goal.returns
returns c =
    let ts = c.args.left.now in let us = c.args.right.now in let k = c.loop-place.atoms in
    all_parts-is c.args.atoms.now (tuples_same ts us)
    ∙ ap made_parts (sym c.loop-place.invariant
    ∙ same_done ts us c.loop-place.place (omega (arith, c.loop-place-test.false, c.loop-place.auto.place-end, c.min-count.ensures)) (option_map form_of c.loop-place.done) k
    ∙ (λ i. record { known = k; parts = sym c.in_ok-parts.ensures i }))
    ∙ (λ i. record { known = k; form = sym c.all_of-all.ensures i })
