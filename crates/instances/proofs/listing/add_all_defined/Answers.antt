use Rattle.std.proofs.Common.{◌≡◌, rules}
use Rattle.ground_problem.specs.Constants.{constants_of}
use Rattle.ground_problem.specs.Problem.{stated}
use Rattle.ground_problem.specs.Definitions.{with_definitions}
use Rattle.ground_atoms.specs.Calls.{calls_of}
use Rattle.ground_groups.proofs.Lists.{makes_refused}
use Rattle.ground_groups.proofs.Started.{defined_then}
use Rattle.instances.proofs.listing.add_all_defined.Goals as goal

pub returns-in-Err : goal.returns-in-Err
returns-in-Err c = makes_refused c.in-Err.refused _ _ _ _ c.in-Err.ensures

pub returns : goal.returns
returns c =
    let d = c.args.spec.now in let ob = c.args.ob.now in
    let g : c.as_slice.result.now ≡ calls_of d ob = search rules in
    defined_then d ob 1 (with_definitions d ob (constants_of d ob) 2 (stated d ob (constants_of d ob))) c.add_definitions.result c.add_second.new.grounding _
    c.in-Ok.ensures (c.add_definitions.ensures ob g)
