use Rattle.std.proofs.Common.{length, map, subst, sym, arith}
use Rattle.ground_problem.specs.Equality.{congruence}
use Rattle.ground_atoms.specs.Symbols.{reading_of}
use Rattle.lazy_ground.specs.Front.{IsCount}
use Rattle.lazy_ground.proofs.Counts.{equal_next}
use Rattle.lazy_ground.proofs.choosing.count_equal.Goals as goal

pub returns-in_err-more-clause-count : goal.returns-in_err-more-clause-count
returns-in_err-more-clause-count c =
    let e = equal_next c.args.readings.now c.args.things.now c.loop-thing.thing-index _ c.count_readings.result c.loop-thing-test.true c.count_readings.ensures in
    let i = c.loop-thing.invariant.count in
    let m = c.in_err-more.ensures.count in
    subst (λ r. IsCount r (length (congruence (map reading_of c.args.readings.now) c.args.things.now))) (sym c.from_residual.ensures) (omega (arith, e, i, m))

pub returns-then-count-gt-MOST_FORMULAS-clause-count : goal.returns-then-count-gt-MOST_FORMULAS-clause-count
returns-then-count-gt-MOST_FORMULAS-clause-count c =
    let e = equal_next c.args.readings.now c.args.things.now c.loop-thing.thing-index _ c.count_readings.result c.loop-thing-test.true c.count_readings.ensures in
    let i = c.loop-thing.invariant.count in
    omega (arith, e, i)

pub loop-thing-preserved : goal.loop-thing-preserved
loop-thing-preserved c =
    let e = equal_next c.args.readings.now c.args.things.now c.loop-thing.thing-index _ c.count_readings.result c.loop-thing-test.true c.count_readings.ensures in
    let i = c.loop-thing.invariant.count in
    record { count = omega (arith, e, i); few = c.if-count-gt-MOST_FORMULAS.false }
