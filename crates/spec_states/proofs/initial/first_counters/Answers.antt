use Rattle.std.proofs.Common.{◌≡◌, ℕ, ℤ, suc, ◌+◌, ◌++◌, ◌∷◌, [], List, take, subst, sym, arith}
use Rattle.std.specs.List.{AllZip}
use Rattle.spec_core.specs.declared.spec.Counter.{Counter}
use Rattle.spec_states.specs.Starting.{CountsAs}
use Rattle.spec_core.proofs.Lists.{zip_more}
use Rattle.spec_states.proofs.initial.first_counters.Goals as goal

pub loop-counter-preserved : goal.loop-counter-preserved
loop-counter-preserved c =
    let P = CountsAs c.args.world.now in
    let i = c.loop-counter.counter-index in
    let one : i + 1 ≡ suc i = omega arith in
    let more = c.in_ok-first_counts.field-0 in
    subst (λ (z : List (List (List ℕ × ℤ))). AllZip P (take (i + 1) c.args.counters.now) z) (sym c.in_ok-push.ensures.items)
    (subst (λ n. AllZip P (take n c.args.counters.now) (c.loop-counter.lists.items ++ more ∷ [])) (sym one)
    (zip_more P c.args.counters.now c.loop-counter.lists.items i c.counter-item.result more c.loop-counter-test.true c.loop-counter.invariant (subst (λ (r : Counter). P r more) c.counter-item.is c.in_ok-first_counts.ensures)))
