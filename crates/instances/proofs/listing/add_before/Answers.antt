use Rattle.std.proofs.Common.{◌≡◌, ℕ, List, ◌++◌, rules, subst}
use Rattle.obligation_list.specs.Breaking.{operations_of}
use Rattle.ground_problem.specs.Constants.{Constants, constants_of}
use Rattle.ground_problem.specs.Entry.{entry, calls_ready, calls_free}
use Rattle.ground_groups.specs.Limited.{Appends}
use Rattle.ground_groups.specs.Calls.{constants_in, numbered_arguments}
use Rattle.ground_groups.proofs.Lists.{makes_then}
use Rattle.instances.proofs.listing.add_before.Goals as goal

pub returns : goal.returns
returns c =
    let d = c.args.spec.now in let ob = c.args.ob.now in let z = constants_of d ob in
    let e : c.args.ops.now ≡ operations_of ob = search rules in
    let same : constants_in c.args.named.now ≡ z = search rules in
    makes_then c.add_calls.result (numbered_arguments d ob) c.args.grounding.now _ (entry d ob z) (calls_ready d z 0 (operations_of ob) z.chosen ++ calls_free d z (operations_of ob))
    c.requires.begun
    (subst (λ (os : List ℕ). Appends c.add_calls.result c.args.grounding.now (calls_ready d z 0 os z.chosen ++ calls_free d z os) c.add_calls.new.grounding) e
    (subst (λ (y : Constants). Appends c.add_calls.result c.args.grounding.now (calls_ready d y 0 c.args.ops.now y.chosen ++ calls_free d y c.args.ops.now) c.add_calls.new.grounding) same c.add_calls.ensures))
