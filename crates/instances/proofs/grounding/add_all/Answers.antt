use Rattle.std.proofs.Common.{◌≡◌, ℕ, List, ◌++◌, map, rules, subst, ap, ◌∙◌}
use Rattle.spec_core.specs.declared.update.Thing.{Thing}
use Rattle.obligation_list.specs.Obligations.{things}
use Rattle.ground_problem.specs.Constants.{Constants, constants_of}
use Rattle.ground_problem.specs.Definitions.{Reading, readings_after}
use Rattle.ground_problem.specs.Equality.{equality, congruence}
use Rattle.ground_problem.specs.Problem.{defined}
use Rattle.ground_atoms.specs.Symbols.{reading_of}
use Rattle.ground_groups.specs.Limited.{Appends}
use Rattle.ground_groups.specs.Calls.{constants_in, numbered_arguments}
use Rattle.ground_groups.proofs.Lists.{makes_then, makes_refused}
use Rattle.instances.proofs.Whole.{named_are}
use Rattle.instances.proofs.grounding.add_all.Goals as goal

pub returns-in-Err : goal.returns-in-Err
returns-in-Err c = makes_refused c.in-Err.refused _ _ _ _ c.in-Err.ensures

pub returns : goal.returns
returns c =
    let d = c.args.spec.now in let ob = c.args.ob.now in
    let z = constants_of d ob in
    let same : constants_in c.args.named.now ≡ z = search rules in
    let sorts : c.as_slice.result.now ≡ z.sorts = c.as_slice.ensures ∙ ap (λ (y : Constants). y.sorts) same in
    let readings : map reading_of c.as_slice-2.result.now ≡ readings_after 0 (defined d ob z) =
    ap (map reading_of) c.as_slice-2.ensures ∙ c.in_ok-readings.ensures ∙ named_are d ob 0 (defined d ob z) _ _ c.in-Ok.ensures in
    let xs : c.as_slice-3.result.now ≡ things d = c.as_slice-3.ensures ∙ c.in_ok-things.ensures in
    makes_then c.add_equal.result (numbered_arguments d ob) _ _ (defined d ob z) (equality 0 z.sorts ++ congruence (readings_after 0 (defined d ob z)) (things d)) c.in-Ok.ensures
    (subst (λ (ss : List ℕ). Appends c.add_equal.result c.add_all_defined.new.grounding (equality 0 ss ++ congruence (readings_after 0 (defined d ob z)) (things d)) c.add_equal.new.grounding) sorts
    (subst (λ (qs : List Reading). Appends c.add_equal.result c.add_all_defined.new.grounding (equality 0 c.as_slice.result.now ++ congruence qs (things d)) c.add_equal.new.grounding) readings
    (subst (λ (ys : List Thing). Appends c.add_equal.result c.add_all_defined.new.grounding (equality 0 c.as_slice.result.now ++ congruence (map reading_of c.as_slice-2.result.now) ys) c.add_equal.new.grounding) xs c.add_equal.ensures)))
