use Rattle.std.proofs.Common.{List, map, filter, ◌∙◌}
use Rattle.spec_core.specs.declared.update.Thing.{Thing}
use Rattle.effectors.specs.Effect.{is_thing}
use Rattle.ground_problem.specs.Symbols.{Symbolic}
use Rattle.ground_problem.specs.Definitions.{Reading}
use Rattle.ground_problem.specs.Equality.{congruent_pairs, rising}
use Rattle.ground_atoms.specs.Symbols.{reading_of}
use Rattle.ground_groups.proofs.Lists.{group_next_at, group_refused_at}
use Rattle.instances.proofs.agreeing.add_congruence.Goals as goal

-- the group of one thing
of_thing : List Reading → Thing → List Symbolic
of_thing qs x = congruent_pairs x (rising (filter (λ q. is_thing q.thing x) qs))

pub returns-in-Err : goal.returns-in-Err
unfolding of_thing
returns-in-Err c =
    group_refused_at (of_thing (map reading_of c.args.readings.now)) c.args.things.now c.loop-thing.thing-index _ c.loop-thing-test.true c.in-Err.refused _ _ _ c.loop-thing.invariant c.in-Err.ensures

pub loop-thing-preserved : goal.loop-thing-preserved
unfolding of_thing
loop-thing-preserved c =
    group_next_at (of_thing (map reading_of c.args.readings.now)) c.args.things.now c.loop-thing.thing-index _ c.loop-thing-test.true _ _ _ _ c.in-Ok.ensures ∙ c.loop-thing.invariant
