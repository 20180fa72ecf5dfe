use Rattle.std.proofs.Common.{◌≡◌, ap}
use Rattle.obligation_list.specs.declared.obligation.Obligation.{Obligation}
use Rattle.ground_problem.specs.Constants.{Constants, constants_of}
use Rattle.ground_problem.specs.Entry.{entry}
use Rattle.ground_groups.specs.Calls.{constants_in}
use Rattle.instances.proofs.Shared.{begun_from}
use Rattle.instances.proofs.entry.begin.Goals as goal

pub returns-in-Safety-clause-begun : goal.returns-in-Safety-clause-begun
returns-in-Safety-clause-begun c =
    let d = c.args.spec.now in let ob = c.args.ob.now in
    let z : constants_in c.args.named.now ≡ constants_of d ob = c.requires.constants in
    begun_from d ob c.args.arguments c.args.named.now.sorts c.shared.result c.requires.arguments (ap (λ (y : Constants). y.sorts) z)
    (ap (λ (o : Obligation). entry d o (constants_of d ob)) c.in-Safety.is) c.shared.ensures.shared

pub returns-in-Commute-clause-begun : goal.returns-in-Commute-clause-begun
returns-in-Commute-clause-begun c =
    let d = c.args.spec.now in let ob = c.args.ob.now in
    let z : constants_in c.args.named.now ≡ constants_of d ob = c.requires.constants in
    begun_from d ob c.args.arguments c.args.named.now.sorts c.shared-in-Commute.result c.requires.arguments (ap (λ (y : Constants). y.sorts) z)
    (ap (λ (o : Obligation). entry d o (constants_of d ob)) c.in-Commute.is) c.shared-in-Commute.ensures.shared

pub returns-in-Stable-clause-begun : goal.returns-in-Stable-clause-begun
returns-in-Stable-clause-begun c =
    let d = c.args.spec.now in let ob = c.args.ob.now in
    let z : constants_in c.args.named.now ≡ constants_of d ob = c.requires.constants in
    begun_from d ob c.args.arguments c.args.named.now.sorts c.shared-in-Stable.result c.requires.arguments (ap (λ (y : Constants). y.sorts) z)
    (ap (λ (o : Obligation). entry d o (constants_of d ob)) c.in-Stable.is) c.shared-in-Stable.ensures.shared
