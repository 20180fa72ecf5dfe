use Rattle.std.proofs.Common.{◌≡◌, ℕ, suc, ◌+◌, ◌++◌, ◌∷◌, [], List, take, subst, sym, arith}
use Rattle.std.specs.List.{AllZip}
use Rattle.spec_core.specs.declared.spec.Relation.{Relation}
use Rattle.spec_states.specs.Starting.{StartsAs}
use Rattle.spec_core.proofs.Lists.{zip_more}
use Rattle.spec_states.proofs.initial.first_relations.Goals as goal

pub loop-relation-preserved : goal.loop-relation-preserved
loop-relation-preserved c =
    let P = StartsAs c.args.world.now in
    let i = c.loop-relation.relation-index in
    let one : i + 1 ≡ suc i = omega arith in
    let more = c.in_ok-first_tuples.field-0 in
    subst (λ (z : List (List (List ℕ))). AllZip P (take (i + 1) c.args.relations.now) z) (sym c.in_ok-push.ensures.items)
    (subst (λ n. AllZip P (take n c.args.relations.now) (c.loop-relation.lists.items ++ more ∷ [])) (sym one)
    (zip_more P c.args.relations.now c.loop-relation.lists.items i c.relation-item.result more c.loop-relation-test.true c.loop-relation.invariant (subst (λ (r : Relation). P r more) c.relation-item.is c.in_ok-first_tuples.ensures)))
