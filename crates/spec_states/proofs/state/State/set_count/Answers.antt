use Rattle.std.proofs.Common.{◌≡◌, ◌<◌, ◌||◌, true, [], length, get_or, sym, ◌∙◌, ap, subst}
use Rattle.std.proofs.lemmas.List.{get_or_default}
use Rattle.std.specs.Str.{bytes_eq}
use Rattle.spec_core.specs.State.{Listing, is_in, listed_keys}
use Rattle.spec_core.specs.Fits.{is_counts, is_state}
use Rattle.std.proofs.lemmas.Bool.{and_parts, and_from}
use Rattle.spec_states.proofs.States.{list_all-set, state_with_counts}
use Rattle.spec_states.proofs.state.State.set_count.Goals as goal

pub invariant_of-self-2 : goal.invariant_of-self-2
invariant_of-self-2 c =
    let p = and_parts _ _ c.self.invariant in
    and_from _ _ p.0 (list_all-set is_counts c.self.inside.counters.items c.args.counter c.set.new.self p.1 c.set.ensures.counts)

pub returns-clause-fits : goal.returns-clause-fits
returns-clause-fits c = λ d w fit keys.
    let s : Listing = record { relations = c.self.inside.relations.items; counters = c.self.inside.counters.items } in
    let lt : c.args.counter < length c.self.inside.counters.items = subst (λ (z : Listing). c.args.counter < length z.counters) (sym c.self.view_is) c.requires.counter in
    let was : get_or s.counters c.args.counter [] ≡ c.index_mut-counts.result.now = get_or_default s.counters c.args.counter [] c.index_mut-counts.result.now lt ∙ sym c.index_mut-counts.ensures.value in
    state_with_counts d w s c.args.counter c.args.key.now c.set.new.self
    (λ q. c.in_ok-set.ensures.listed q ∙ ap (λ es. bytes_eq q c.args.key.now || is_in q (listed_keys es)) (sym was))
    (subst (λ (z : Listing). is_state d w z ≡ true) (sym c.self.view_is) fit) keys
