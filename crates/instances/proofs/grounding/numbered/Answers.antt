use Rattle.std.proofs.Common.{◌≡◌, ℕ, List, [], fold, map, rules, ap, ◌∙◌}
use Rattle.spec_core.specs.Specification.{op_of}
use Rattle.obligation_list.specs.Breaking.{operations_of}
use Rattle.ground_problem.specs.Constants.{params_of}
use Rattle.ground_numbers.specs.Numbers.{Table}
use Rattle.ground_numbers.specs.Problem.{arguments_from}
use Rattle.ground_atoms.specs.Known.{nothing, know_integer}
use Rattle.ground_groups.proofs.Arguments.{arguments_known}
use Rattle.instances.proofs.grounding.numbered.Goals as goal

pub returns : goal.returns
returns c =
    let d = c.args.spec.now in let ob = c.args.ob.now in
    let ops : c.args.ops.now ≡ operations_of ob = search rules in
    let made : c.number_arguments.new.atoms ≡ fold know_integer nothing (arguments_from 0 (map (λ o. (op_of d o).params) c.args.ops.now)) = search rules in
    made ∙ ap (λ (os : List ℕ). fold know_integer nothing (arguments_from 0 (map (λ o. (op_of d o).params) os))) ops
    ∙ arguments_known (record { atoms = []; ints = [] }) 0 (params_of d ob)
    ∙ ap (λ (t : Table). record { table = t; named = [] }) (c.law_arguments_are_first.ensures d ob)
