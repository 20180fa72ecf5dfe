use Rattle.std.proofs.Common.{◌≡◌, ◌+◌, length, sym, ap, arith}
use Rattle.std.specs.Prelude.{ltb}
use Rattle.std.proofs.lemmas.Bool.{lt-ltb}
use Rattle.ground_problem.specs.Problem.{formulas_of, most_formulas}
use Rattle.lazy_ground.proofs.Counts.{front_count, front_few}
use Rattle.lazy_ground.proofs.choosing.has_too_many.Goals as goal

pub overflow_add-result : goal.overflow_add-result
overflow_add-result c =
    let front = front_few c.args.spec.now c.args.ob.now c.args.front.now c.requires.front in
    let count = c.in-Some.ensures.few in
    let len = c.len.ensures in
    omega (arith, front, count, len)

pub returns-in-Some : goal.returns-in-Some
returns-in-Some c =
    let d = c.args.spec.now in let ob = c.args.ob.now in
    let all = front_count d ob c.args.front.now c.as_slice.result.now c.args.all.now c.requires.front c.as_slice.ensures c.requires.things in
    let count = c.in-Some.ensures.count in
    let len = c.len.ensures in
    let is : c.len.result + c.in-Some.count ≡ length (formulas_of d ob) = omega (arith, all, count, len) in
    ap (ltb most_formulas) is

pub returns-in-None : goal.returns-in-None
returns-in-None c =
    let d = c.args.spec.now in let ob = c.args.ob.now in
    let all = front_count d ob c.args.front.now c.as_slice.result.now c.args.all.now c.requires.front c.as_slice.ensures c.requires.things in
    let count = c.in-None.ensures.count in
    sym (lt-ltb most_formulas (length (formulas_of d ob)) (omega (arith, all, count)))
