use Rattle.std.proofs.Common.{◌≡◌, rules, subst}
use Rattle.ground_problem.specs.Conclusion.{conclusion}
use Rattle.ground_problem.specs.Constants.{Constants, constants_of}
use Rattle.ground_groups.specs.Limited.{Appends}
use Rattle.ground_groups.specs.Calls.{constants_in}
use Rattle.ground_groups.proofs.Lists.{makes_then, makes_refused}
use Rattle.instances.proofs.listing.add_stated.Goals as goal

pub returns-in-Err : goal.returns-in-Err
returns-in-Err c = makes_refused c.in-Err.refused _ _ _ _ c.in-Err.ensures

pub returns : goal.returns
returns c =
    let d = c.args.spec.now in let ob = c.args.ob.now in let z = constants_of d ob in
    let same : constants_in c.args.named.now ≡ z = search rules in
    makes_then c.add_conclusion.result _ _ _ _ _ c.in-Ok.ensures
    (subst (λ (y : Constants). Appends c.add_conclusion.result c.add_before.new.grounding (conclusion d ob y) c.add_conclusion.new.grounding) same c.add_conclusion.ensures)
