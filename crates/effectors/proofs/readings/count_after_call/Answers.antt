use Rattle.std.proofs.Common.{Bool, cond, pos, sym, ◌∙◌, ap, rules, FitsSigned}
use mir.Syntax.{w128}
use Rattle.std.proofs.lemmas.Int.{to_z-of_z}
use Rattle.spec_core.specs.Specification.{op_of}
use Rattle.effectors.specs.Effect.{count_after}
use Rattle.effectors.proofs.Whole.{count-after}
use Rattle.effectors.proofs.readings.count_after_call.Goals as goal

pub returns-then-fits_counter : goal.returns-then-fits_counter
returns-then-fits_counter g c =
    let r = g.R.Readings.reads c.args.at.now in let call = c.args.call.now in let t = c.args.key.now in
    let x = count_after c.args.world.now r call.args c.args.counter t (op_of c.args.spec.now call.op).updates (r.count c.args.counter t) in
    let f : FitsSigned w128 c.count_updated.result = search rules in
    simp to_z-of_z (c.count_updated.ensures ∙ sym (count-after c.args.spec.now c.args.world.now call r c.args.counter t ∙ ap (λ (b : Bool). cond b x (pos 0)) (sym c.fits_counter.ensures ∙ c.if-fits_counter.true)))

pub returns-else-fits_counter : goal.returns-else-fits_counter
returns-else-fits_counter g c =
    let r = g.R.Readings.reads c.args.at.now in let call = c.args.call.now in let t = c.args.key.now in
    let x = count_after c.args.world.now r call.args c.args.counter t (op_of c.args.spec.now call.op).updates (r.count c.args.counter t) in
    sym (count-after c.args.spec.now c.args.world.now call r c.args.counter t ∙ ap (λ (b : Bool). cond b x (pos 0)) (sym c.fits_counter.ensures ∙ c.if-fits_counter.false))
