use Rattle.std.proofs.Common.{◌≡◌, true, length, subst, sym, ◌∙◌}
use Rattle.spec_core.specs.Specification.{Specification}
use Rattle.spec_core.specs.State.{Listing, reads, nothing}
use Rattle.spec_core.specs.Fits.{is_state, is_listing}
use Rattle.spec_states.proofs.States.{none, none_reads, none_fits, none_listing}
use Rattle.spec_states.proofs.state.State.empty.Goals as goal

pub invariant_of-result : goal.invariant_of-result
invariant_of-result c =
    let same : none c.len.result c.len-2.result ≡ record { relations = c.in_ok-relations.relations.items; counters = c.in_ok-counters.counters.items } =
    (λ i. record { relations = sym c.in_ok-relations.ensures i; counters = sym c.in_ok-counters.ensures i }) in
    subst (λ (s : Listing). is_listing s ≡ true) same (none_listing c.len.result c.len-2.result)

pub returns-clause-reads : goal.returns-clause-reads
returns-clause-reads c =
    let same : none c.len.result c.len-2.result ≡ record { relations = c.in_ok-relations.relations.items; counters = c.in_ok-counters.counters.items } =
    (λ i. record { relations = sym c.in_ok-relations.ensures i; counters = sym c.in_ok-counters.ensures i }) in
    subst (λ (s : Listing). reads s ≡ nothing) same (none_reads c.len.result c.len-2.result)

pub returns-clause-fits : goal.returns-clause-fits
returns-clause-fits c =
    let d = c.args.spec.now in let w = c.args.world.now in
    let same : none c.len.result c.len-2.result ≡ record { relations = c.in_ok-relations.relations.items; counters = c.in_ok-counters.counters.items } =
    (λ i. record { relations = sym c.in_ok-relations.ensures i; counters = sym c.in_ok-counters.ensures i }) in
    let relations : c.len.result ≡ length d.relations = subst (λ (d : Specification). c.len.result ≡ length d.relations) c.spec.view_is c.len.ensures in
    let counters : c.len-2.result ≡ length d.counters = subst (λ (d : Specification). c.len-2.result ≡ length d.counters) c.spec.view_is c.len-2.ensures in
    let sizes : none (length d.relations) (length d.counters) ≡ none c.len.result c.len-2.result = (λ i. none (sym relations i) (sym counters i)) in
    subst (λ (s : Listing). is_state d w s ≡ true) (sizes ∙ same) (none_fits d w)
