use Rattle.std.proofs.Common.{ℕ, ◌<◌, List, length, Option, None, Some, refl, sym, ap, ◌∙◌, subst, arith}
use Rattle.std.specs.Prelude.{slice_get}
use Rattle.std.specs.Option.{unwrap_or}
use Rattle.std.proofs.lemmas.Option.{unwrap_or-slice_get}
use Rattle.simulate_text.specs.Unbroken.{AreUnbroken}
use Rattle.simulate_text.proofs.Unbroken.{asked_is, asked_none}
use Rattle.simulate_text.proofs.simulation.ask_invariants.Goals as goal

pub returns-in-Some-clause-broken : goal.returns-in-Some-clause-broken
returns-in-Some-clause-broken g c =
    let net = c.args.net.now in let r = c.args.replica in let counts = c.args.unbroken.now.items in
    let same = sym (c.unwrap_or-count.ensures ∙ ap (λ (o : Option ℕ). unwrap_or o 0) (c.number_at.ensures ∙ ap (λ (l : List ℕ). slice_get l r) c.deref.ensures.value) ∙ unwrap_or-slice_get counts r 0) in
    let lt : r < length net.replicas = omega (arith, c.if-replica-replica_count.false, c.replica_count.ensures) in
    asked_is net r c.unwrap_or-count.result counts (Some c.in-Some.place) same c.in-Some.ensures lt

pub returns-in-Ok-clause-broken : goal.returns-in-Ok-clause-broken
returns-in-Ok-clause-broken g c =
    let net = c.args.net.now in let r = c.args.replica in let counts = c.args.unbroken.now.items in
    let same = sym (c.unwrap_or-count.ensures ∙ ap (λ (o : Option ℕ). unwrap_or o 0) (c.number_at.ensures ∙ ap (λ (l : List ℕ). slice_get l r) c.deref.ensures.value) ∙ unwrap_or-slice_get counts r 0) in
    let lt : r < length net.replicas = omega (arith, c.if-replica-replica_count.false, c.replica_count.ensures) in
    asked_is net r c.unwrap_or-count.result counts None same c.in-None.ensures lt

pub returns-in-Ok-clause-unbroken : goal.returns-in-Ok-clause-unbroken
returns-in-Ok-clause-unbroken g c known =
    let net = c.args.net.now in let r = c.args.replica in let counts = c.args.unbroken.now.items in
    let same = sym (c.unwrap_or-count.ensures ∙ ap (λ (o : Option ℕ). unwrap_or o 0) (c.number_at.ensures ∙ ap (λ (l : List ℕ). slice_get l r) c.deref.ensures.value) ∙ unwrap_or-slice_get counts r 0) in
    subst (AreUnbroken net) (sym c.set_number.ensures)
    (asked_none net r c.unwrap_or-count.result counts None same c.in-None.ensures refl c.is_executed.ensures.executed c.taken.result.now c.in-Ok.count c.taken.ensures c.in-Ok.ensures known)

pub returns-in_default-clause-broken : goal.returns-in_default-clause-broken
returns-in_default-clause-broken g c =
    let net = c.args.net.now in let r = c.args.replica in let counts = c.args.unbroken.now.items in
    let same = sym (c.unwrap_or-count.ensures ∙ ap (λ (o : Option ℕ). unwrap_or o 0) (c.number_at.ensures ∙ ap (λ (l : List ℕ). slice_get l r) c.deref.ensures.value) ∙ unwrap_or-slice_get counts r 0) in
    let lt : r < length net.replicas = omega (arith, c.if-replica-replica_count.false, c.replica_count.ensures) in
    asked_is net r c.unwrap_or-count.result counts None same c.in-None.ensures lt
