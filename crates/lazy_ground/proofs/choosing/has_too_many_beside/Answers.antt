use Rattle.std.proofs.Common.{◌≡◌, ◌+◌, length, refl, sym, ap, arith}
use Rattle.std.specs.Prelude.{ltb}
use Rattle.std.proofs.lemmas.Bool.{lt-ltb}
use Rattle.ground_problem.specs.Problem.{formulas_of, most_formulas}
use Rattle.lazy_ground.proofs.Counts.{found_count, front_few}
use Rattle.lazy_ground.proofs.choosing.has_too_many_beside.Goals as goal

pub returns-in_default : goal.returns-in_default
returns-in_default c =
    let d = c.args.spec.now in let ob = c.args.ob.now in let f = c.args.front.now in
    let all = found_count d ob f f.readings c.args.pairs.now c.args.relations.now c.args.counters.now c.requires.front refl c.requires.pairs c.requires.things in
    let count = c.in_default.ensures.count in
    sym (lt-ltb most_formulas (length (formulas_of d ob)) (omega (arith, all, count)))

pub overflow_add-result : goal.overflow_add-result
overflow_add-result c =
    let front = front_few c.args.spec.now c.args.ob.now c.args.front.now c.requires.front in
    let count = c.in-Some.ensures.few in
    let len = c.len.ensures in
    omega (arith, front, count, len)

pub overflow_add-result-in-Some-count_equal : goal.overflow_add-result-in-Some-count_equal
overflow_add-result-in-Some-count_equal c =
    let front = front_few c.args.spec.now c.args.ob.now c.args.front.now c.requires.front in
    let count = c.in-Some.ensures.few in
    let others = c.in-Some-count_equal.ensures.few in
    let len = c.len.ensures in
    omega (arith, front, count, others, len)

pub returns-in-Some-count_equal : goal.returns-in-Some-count_equal
returns-in-Some-count_equal c =
    let d = c.args.spec.now in let ob = c.args.ob.now in
    let all = found_count d ob c.args.front.now c.as_slice.result.now c.args.pairs.now c.args.relations.now c.args.counters.now c.requires.front c.as_slice.ensures c.requires.pairs c.requires.things in
    let count = c.in-Some.ensures.count in
    let others = c.in-Some-count_equal.ensures.count in
    let len = c.len.ensures in
    let is : c.len.result + c.in-Some.found + c.in-Some-count_equal.others ≡ length (formulas_of d ob) = omega (arith, all, count, others, len) in
    ap (ltb most_formulas) is

pub returns-in-None : goal.returns-in-None
returns-in-None c =
    let d = c.args.spec.now in let ob = c.args.ob.now in
    let all = found_count d ob c.args.front.now c.as_slice.result.now c.args.pairs.now c.args.relations.now c.args.counters.now c.requires.front c.as_slice.ensures c.requires.pairs c.requires.things in
    let count = c.in-None.ensures.count in
    sym (lt-ltb most_formulas (length (formulas_of d ob)) (omega (arith, all, count)))
