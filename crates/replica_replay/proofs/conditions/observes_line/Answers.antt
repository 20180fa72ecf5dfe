use Rattle.std.proofs.Common.{sym, ◌∙◌, arith}
use Rattle.spec_core.specs.State.{reads}
use Rattle.replica_replay.proofs.Lines.{observes_place}
use Rattle.replica_replay.proofs.conditions.observes_line.Goals as goal

pub overflow_cast-result : goal.overflow_cast-result
overflow_cast-result c =
    let lt = observes_place c.args.spec.now c.args.world.now c.args.call.now (reads c.args.state.now) c.in-Some.place c.well_formed-2.ensures c.requires.world c.requires.call (sym c.observes_broken_at.ensures.place ∙ c.in-Some.is) in
    omega (arith, lt)

pub overflow_add-result : goal.overflow_add-result
overflow_add-result c =
    let lt = observes_place c.args.spec.now c.args.world.now c.args.call.now (reads c.args.state.now) c.in-Some.place c.well_formed-2.ensures c.requires.world c.requires.call (sym c.observes_broken_at.ensures.place ∙ c.in-Some.is) in
    omega (arith, lt)
