use Rattle.std.proofs.Common.{Bool, ◌&&◌, sym, ◌∙◌, ap}
use Rattle.spec_core.specs.Specification.{op_of}
use Rattle.effectors.specs.Effect.{has_after}
use Rattle.effectors.proofs.Whole.{has-after}
use Rattle.effectors.proofs.readings.has_after_call.Goals as goal

pub returns-then-fits_relation : goal.returns-then-fits_relation
returns-then-fits_relation g c =
    let r = g.R.Readings.reads c.args.at.now in let call = c.args.call.now in let t = c.args.tuple.now in
    let x = has_after c.args.world.now r call.args c.args.relation t (op_of c.args.spec.now call.op).updates (r.has c.args.relation t) in
    c.has_updated.ensures ∙ sym (has-after c.args.spec.now c.args.world.now call r c.args.relation t ∙ ap (λ (b : Bool). b && x) (sym c.fits_relation.ensures ∙ c.if-fits_relation.true))

pub returns-else-fits_relation : goal.returns-else-fits_relation
returns-else-fits_relation g c =
    let r = g.R.Readings.reads c.args.at.now in let call = c.args.call.now in let t = c.args.tuple.now in
    let x = has_after c.args.world.now r call.args c.args.relation t (op_of c.args.spec.now call.op).updates (r.has c.args.relation t) in
    c.if-fits_relation.false ∙ sym (has-after c.args.spec.now c.args.world.now call r c.args.relation t ∙ ap (λ (b : Bool). b && x) (sym c.fits_relation.ensures ∙ c.if-fits_relation.false))
