use Rattle.std.proofs.Common.{◌≡◌, true, List, subst, sym}
use Rattle.std.specs.List.{AllZip, list_all}
use Rattle.spec_core.specs.declared.spec.Relation.{Relation}
use Rattle.spec_core.specs.declared.spec.Counter.{Counter}
use Rattle.spec_core.specs.Specification.{Specification}
use Rattle.spec_core.specs.Fits.{in_state_range}
use Rattle.spec_states.specs.Starting.{StartsAs, CountsAs}
use Rattle.spec_core.proofs.Parts.{counters_in_range}
use Rattle.spec_states.proofs.States.{initial_reads, initial_fits, initial_listing}
use Rattle.spec_states.proofs.state.State.initial.Goals as goal

pub first_counters-requires : goal.first_counters-requires
first_counters-requires c =
    let of_spec : c.as_slice-2.result.now ≡ c.args.spec.now.counters = subst (λ (d : Specification). c.as_slice-2.result.now ≡ d.counters) c.spec.view_is c.as_slice-2.ensures in
    subst (λ (cs : List Counter). list_all (λ (c : Counter). in_state_range c.initial) cs ≡ true) (sym of_spec) (counters_in_range c.args.spec.now c.well_formed-2.ensures)

pub invariant_of-result : goal.invariant_of-result
invariant_of-result c =
    let w = c.args.world.now in
    let relations : c.as_slice.result.now ≡ c.args.spec.now.relations = subst (λ (d : Specification). c.as_slice.result.now ≡ d.relations) c.spec.view_is c.as_slice.ensures in
    let counters : c.as_slice-2.result.now ≡ c.args.spec.now.counters = subst (λ (d : Specification). c.as_slice-2.result.now ≡ d.counters) c.spec.view_is c.as_slice-2.ensures in
    initial_listing w c.args.spec.now (record { relations = c.in_ok-relations.relations.items; counters = c.in_ok-counters.counters.items })
    (subst (λ (rs : List Relation). AllZip (StartsAs w) rs c.in_ok-relations.relations.items) relations c.in_ok-relations.ensures)
    (subst (λ (cs : List Counter). AllZip (CountsAs w) cs c.in_ok-counters.counters.items) counters c.in_ok-counters.ensures)

pub returns-clause-reads : goal.returns-clause-reads
returns-clause-reads c =
    let w = c.args.world.now in
    let relations : c.as_slice.result.now ≡ c.args.spec.now.relations = subst (λ (d : Specification). c.as_slice.result.now ≡ d.relations) c.spec.view_is c.as_slice.ensures in
    let counters : c.as_slice-2.result.now ≡ c.args.spec.now.counters = subst (λ (d : Specification). c.as_slice-2.result.now ≡ d.counters) c.spec.view_is c.as_slice-2.ensures in
    initial_reads w c.args.spec.now (record { relations = c.in_ok-relations.relations.items; counters = c.in_ok-counters.counters.items })
    (subst (λ (rs : List Relation). AllZip (StartsAs w) rs c.in_ok-relations.relations.items) relations c.in_ok-relations.ensures)
    (subst (λ (cs : List Counter). AllZip (CountsAs w) cs c.in_ok-counters.counters.items) counters c.in_ok-counters.ensures)

pub returns-clause-fits : goal.returns-clause-fits
returns-clause-fits c =
    let w = c.args.world.now in
    let relations : c.as_slice.result.now ≡ c.args.spec.now.relations = subst (λ (d : Specification). c.as_slice.result.now ≡ d.relations) c.spec.view_is c.as_slice.ensures in
    let counters : c.as_slice-2.result.now ≡ c.args.spec.now.counters = subst (λ (d : Specification). c.as_slice-2.result.now ≡ d.counters) c.spec.view_is c.as_slice-2.ensures in
    initial_fits w c.args.spec.now (record { relations = c.in_ok-relations.relations.items; counters = c.in_ok-counters.counters.items })
    (subst (λ (rs : List Relation). AllZip (StartsAs w) rs c.in_ok-relations.relations.items) relations c.in_ok-relations.ensures)
    (subst (λ (cs : List Counter). AllZip (CountsAs w) cs c.in_ok-counters.counters.items) counters c.in_ok-counters.ensures)
