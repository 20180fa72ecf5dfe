use Rattle.std.proofs.Common.{◌≡◌, ◌<◌, true, cond, [], length, get_or, sym, ◌∙◌, ap, subst}
use Rattle.std.proofs.lemmas.List.{get_or_default}
use Rattle.std.specs.Str.{bytes_eq}
use Rattle.spec_core.specs.State.{Listing, is_in, is_rising}
use Rattle.spec_core.specs.Fits.{is_state}
use Rattle.std.proofs.lemmas.Bool.{and_parts, and_from}
use Rattle.spec_states.proofs.States.{list_all-set, state_with_tuples}
use Rattle.spec_states.proofs.state.State.set_has.Goals as goal

pub invariant_of-self-2 : goal.invariant_of-self-2
invariant_of-self-2 c =
    let p = and_parts _ _ c.self.invariant in
    and_from _ _ (list_all-set is_rising c.self.inside.relations.items c.args.relation c.set.new.self p.0 c.set.ensures.rising) p.1

pub returns-clause-fits : goal.returns-clause-fits
returns-clause-fits c = λ d w fit places.
    let s : Listing = record { relations = c.self.inside.relations.items; counters = c.self.inside.counters.items } in
    let lt : c.args.relation < length c.self.inside.relations.items = subst (λ (z : Listing). c.args.relation < length z.relations) (sym c.self.view_is) c.requires in
    let was : get_or s.relations c.args.relation [] ≡ c.index_mut-tuples.result.now = get_or_default s.relations c.args.relation [] c.index_mut-tuples.result.now lt ∙ sym c.index_mut-tuples.ensures.value in
    state_with_tuples d w s c.args.relation c.args.tuple.now c.args.value c.set.new.self
    (λ q. c.in_ok-set.ensures.ok q ∙ ap (λ ts. cond (bytes_eq q c.args.tuple.now) c.args.value (is_in q ts)) (sym was))
    (subst (λ (z : Listing). is_state d w z ≡ true) (sym c.self.view_is) fit) places
