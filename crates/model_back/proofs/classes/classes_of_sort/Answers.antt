use Rattle.std.proofs.Common.{◌≡◌, ◌+◌, [], arith}
use Rattle.std.proofs.lemmas.Grind.{common_steps}
use Rattle.ground_problem.specs.Classes.{firsts}
use Rattle.ground_problem.specs.Constants.{of_sort}
use Rattle.model_back.specs.Equals.{alike_by}
use Rattle.model_back.proofs.Scanning.{classes_on}
use Rattle.model_back.proofs.classes.classes_of_sort.Goals as goal

pub loop-own-preserved : goal.loop-own-preserved
loop-own-preserved c =
    let like = alike_by c.args.equals.now in
    let next : c.in_ok-constant.constant ≡ c.loop-own.constant + 1 = grind (arith, common_steps) in
    classes_on like (firsts like [] (of_sort 0 c.args.sorts.now c.args.sort)) c.loop-own.firsts c.list_class.new.firsts c.args.sorts.now c.loop-own.constant c.in_ok-constant.constant c.loop-own.own-index c.args.sort c.loop-own.invariant c.loop-own-test.true c.in_ok-list_class.ensures next
