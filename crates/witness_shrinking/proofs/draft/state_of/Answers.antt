use Rattle.std.proofs.Common.{arith}
use Rattle.witness_shrinking.proofs.States.{relations_many, counters_many}
use Rattle.witness_shrinking.proofs.draft.state_of.Goals as goal

pub put_facts-requires-clause-relations : goal.put_facts-requires-clause-relations
put_facts-requires-clause-relations c = (let e = relations_many c.args.spec.now c.args.world.now _ c.in_ok-state.ensures.fits in omega (arith, e))

pub put_facts-requires-clause-counters : goal.put_facts-requires-clause-counters
put_facts-requires-clause-counters c = (let e = counters_many c.args.spec.now c.args.world.now _ c.in_ok-state.ensures.fits in omega (arith, e))

pub returns-2 : goal.returns-2
returns-2 c =
    let relations = relations_many c.args.spec.now c.args.world.now _ c.in_ok-state.ensures.fits in
    let counters = counters_many c.args.spec.now c.args.world.now _ c.in_ok-state.ensures.fits in
    record {
      relations = omega (arith, relations, c.put_facts.ensures.relations);
      counters = omega (arith, counters, c.put_facts.ensures.counters);
    }
