-- An order is followed one event at a time: to a state, or to a value beyond the range of a state.
use Rattle.std.specs.Prelude.{slice_get, Some}
use Rattle.std.proofs.Common.{◌≡◌, ℕ, ◌+◌, ◌<◌, ◌⊎◌, inl, inr, true, List, length, get_or, take, refl, sym, ◌∙◌, ap, subst, arith}
use Rattle.std.proofs.lemmas.Option.{slice_get-get_or, get_or_from_slice_get}
use Rattle.std.proofs.lemmas.List.{take_more}
use Rattle.spec_core.specs.declared.world.World.{World}
use Rattle.spec_core.specs.declared.world.Call.{Call}
use Rattle.spec_core.specs.Specification.{Specification}
use Rattle.spec_core.specs.State.{Listing, Reads, reads}
use Rattle.spec_core.specs.Fits.{is_state}
use Rattle.effectors.specs.Effect.{after_call, after}
use Rattle.effectors.specs.Beyond.{Beyond, AllInRange, IsFirstBeyond}
use Rattle.executions.specs.Orders.{Event}
use Rattle.executions.specs.Executions.{with_event, state_after}
use Rattle.executions.specs.Convergence.{system_of}
use Rattle.executions.specs.Ranges.{StayInRange, IsFirstBeyondIn}
use Rattle.executions.proofs.Growth.{state_more}

-- the state after the first i events of an order
pub record Follows (d : Specification) (w : World) (events : List (Event Call)) (order : List ℕ) (i : ℕ) (s : Listing) : Type 0 where
  pub state : reads s ≡ state_after (system_of d w) events (take i order)
  pub in_range : StayInRange d w events order i
  pub fits : is_state d w s ≡ true

below_or_last : (j i : ℕ) → j < i + 1 → (j < i) ⊎ (j ≡ i)
below_or_last j i lt = grind arith

same_event : (one other : Event Call) → Some one ≡ Some other → one ≡ other
same_event one other e = cc

module _ (d : Specification) (w : World) (events : List (Event Call)) (order : List ℕ) (i : ℕ) (s : Listing) (event : Event Call) (so_far : Follows d w events order i s) (lt : i < length order) (here : slice_get events (get_or order i 0) ≡ Some event) where
  event_leads : (r : Reads) → with_event (system_of d w) events r (get_or order i 0) ≡ after d w event.call r
  event_leads r = rw (here, with_event) refl

  next_state : state_after (system_of d w) events (take (i + 1) order) ≡ after d w event.call (reads s)
  next_state =
      ap (state_after (system_of d w) events) (take_more order i 0 lt) ∙ state_more (system_of d w) events (take i order) (get_or order i 0)
      ∙ event_leads (state_after (system_of d w) events (take i order)) ∙ ap (after d w event.call) (sym so_far.state)

  next_in_range : AllInRange (after_call d w event.call (reads s)) → StayInRange d w events order (i + 1)
  next_in_range all j e other below taken exists = elim (below_or_last j i below) [
    | inl less ↦ so_far.in_range j e other less taken exists
    | inr q ↦ (let taken_here = subst (λ k. slice_get order k ≡ Some e) q taken in
        let number = get_or_from_slice_get order i e 0 taken_here in
        let same = same_event event other (sym here ∙ ap (slice_get events) number ∙ exists) in
        subst (λ k. AllInRange (after_call d w other.call (state_after (system_of d w) events (take k order)))) (sym q)
        (subst (λ r. AllInRange (after_call d w other.call r)) so_far.state
        (subst (λ (v : Event Call). AllInRange (after_call d w v.call (reads s))) same all)))
  ]

  -- the effect of the next event leads on
  pub follows_more : (next : Listing) → reads next ≡ after d w event.call (reads s) → AllInRange (after_call d w event.call (reads s)) → is_state d w next ≡ true → Follows d w events order (i + 1) next
  follows_more next is all fit = record { state = is ∙ sym next_state; in_range = next_in_range all; fits = fit }

  -- or to a value beyond the range
  pub beyond_here : (b : Beyond) → IsFirstBeyond (after_call d w event.call (reads s)) b → IsFirstBeyondIn d w events order b
  beyond_here b first = record {
    place = i;
    number = get_or order i 0;
    event = event;
    taken = slice_get-get_or order i 0 lt;
    exists = here;
    before = so_far.in_range;
    first = subst (λ r. IsFirstBeyond (after_call d w event.call r) b) so_far.state first;
  }

-- the element that an index reads, by its view
pub read_at : {X : Type 0} (xs : List X) (i : ℕ) (x y : X) → i < length xs → x ≡ get_or xs i x → y ≡ x → slice_get xs i ≡ Some y
read_at xs i x y lt is view = slice_get-get_or xs i x lt ∙ ap Some (sym is ∙ sym view)
