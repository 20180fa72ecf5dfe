use Rattle.std.proofs.Common.{length, subst, sym, arith}
use Rattle.std.specs.List.{flat_map}
use Rattle.lazy_ground.specs.Front.{IsCount}
use Rattle.lazy_ground.specs.Pairs.{pairs_of}
use Rattle.lazy_ground.proofs.Counts.{count_next}
use Rattle.lazy_ground.proofs.choosing.count_found.Goals as goal

pub returns-in_err-more-clause-count : goal.returns-in_err-more-clause-count
returns-in_err-more-clause-count c =
    let e = count_next c.args.pairs.now c.loop-some.some-index c.some-item.result c.len.result c.loop-some-test.true c.some-item.is c.len.ensures in
    let i = c.loop-some.invariant.count in
    let m = c.in_err-more.ensures.count in
    subst (λ r. IsCount r (length (flat_map pairs_of c.args.pairs.now))) (sym c.from_residual.ensures) (omega (arith, e, i, m))

pub returns-then-count-gt-MOST_FORMULAS-clause-count : goal.returns-then-count-gt-MOST_FORMULAS-clause-count
returns-then-count-gt-MOST_FORMULAS-clause-count c =
    let e = count_next c.args.pairs.now c.loop-some.some-index c.some-item.result c.len.result c.loop-some-test.true c.some-item.is c.len.ensures in
    let i = c.loop-some.invariant.count in
    let m = c.in_ok-more.ensures.count in
    omega (arith, e, i, m)

pub loop-some-preserved : goal.loop-some-preserved
loop-some-preserved c =
    let e = count_next c.args.pairs.now c.loop-some.some-index c.some-item.result c.len.result c.loop-some-test.true c.some-item.is c.len.ensures in
    let i = c.loop-some.invariant.count in
    let m = c.in_ok-more.ensures.count in
    record { count = omega (arith, e, i, m); few = c.if-count-gt-MOST_FORMULAS.false }
