-- An accepted step leaves the replay well kept.
use Rattle.std.specs.Prelude.{slice_get, None, Some, map, set}
use Rattle.std.proofs.Common.{◌≡◌, ℕ, zero, suc, ◌+◌, ◌<◌, ◌≤◌, ◌^◌, true, inl, inr, List, [], ◌∷◌, ◌++◌, length, get_or, refl, sym, ◌∙◌, ap, subst, arith, length-append}
use Rattle.std.proofs.lemmas.Option.{slice_get_within}
use Rattle.spec_core.specs.declared.world.World.{World}
use Rattle.spec_core.specs.declared.world.Call.{Call}
use Rattle.spec_core.specs.Specification.{Specification}
use Rattle.spec_core.specs.State.{Reads, reads}
use Rattle.spec_core.specs.Fits.{is_state}
use Rattle.effectors.specs.Effect.{after}
use Rattle.executions.specs.Orders.{Event}
use Rattle.executions.specs.Executions.{with_event, state_after}
use Rattle.executions.specs.Convergence.{system_of}
use Rattle.executions.proofs.Growth.{get_last, front_or_last, state_more, state_still}
use Rattle.replica_replay.specs.declared.keeping.Happened.{Happened}
use Rattle.replica_replay.specs.declared.keeping.Replica.{Replica}
use Rattle.replica_replay.specs.Held.{Held, IsHeld}
use Rattle.replica_replay.specs.Refusals.{call_refused, taking_refused}
use Rattle.replica_replay.specs.Steps.{state_of}
use Rattle.replica_replay.specs.Holding.{event_of, orders_of, calls_of, held_by, IsKept}
use Rattle.replica_replay.proofs.Taking.{absent, one_found, get_set, get_map}
use Rattle.replica_replay.proofs.Refusing.{view_with, view_of}
use Rattle.replica_replay.proofs.Executed.{call_kept, taking_kept}
use Rattle.replica_replay.proofs.Fronts.{grown, front_within, map_set, calls_map, held_taking, held_call}

pub own_order : (replicas : List Replica) (r : ℕ) (at : Replica) → slice_get replicas r ≡ Some at → get_or (orders_of replicas) r [] ≡ at.order
own_order [] r at h = absurd (absent at h)
own_order (x ∷ xs) zero at h = ap (λ (z : Replica). z.order) (one_found x at h)
own_order (x ∷ xs) (suc r) at h = own_order xs r at h

own_taken : (replicas : List Replica) (r : ℕ) (at : Replica) → slice_get replicas r ≡ Some at → slice_get (orders_of replicas) r ≡ Some (get_or (orders_of replicas) r [])
own_taken replicas r at h = get_map (λ (z : Replica). z.order) replicas r at h ∙ ap Some (sym (own_order replicas r at h))

module _ (d : Specification) (w : World) where
  state_grown : (events : List (Event Call)) (mine : List ℕ) (e : ℕ) (event : Event Call) → slice_get events e ≡ Some event
      → state_after (system_of d w) events (mine ++ e ∷ []) ≡ after d w event.call (state_after (system_of d w) events mine)
  state_grown events mine e event q = state_more (system_of d w) events mine e ∙ leads
    where
      leads : with_event (system_of d w) events (state_after (system_of d w) events mine) e ≡ after d w event.call (state_after (system_of d w) events mine)
      leads = rw (q, with_event) refl

  -- a replica's next state is the state after what it has taken then
  own_state : (old new : Held) (mine order : List ℕ) (e : ℕ) (event : Event Call) (state next : Reads) → slice_get new.events e ≡ Some event
      → state_after (system_of d w) new.events mine ≡ state_after (system_of d w) old.events mine
      → state ≡ state_of d w old mine → next ≡ after d w event.call state → order ≡ mine ++ e ∷ []
      → next ≡ state_of d w new order
  own_state old new mine order e event state next q still was is grew =
      is
      ∙ ap (after d w event.call) (was ∙ sym still)
      ∙ sym (state_grown new.events mine e event q)
      ∙ ap (state_after (system_of d w) new.events) (sym grew)

  pub taking_is_kept : (happened : List Happened) (replicas : List Replica) (r e : ℕ) (at next : Replica) (h : Happened) → IsKept d w happened replicas
      → slice_get replicas r ≡ Some at → slice_get happened e ≡ Some h
      → taking_refused d w (view_of at) e (event_of (orders_of replicas) h) ≡ None
      → next.order ≡ get_or (orders_of replicas) r [] ++ e ∷ []
      → is_state d w next.state ≡ true → reads next.state ≡ after d w h.call (reads at.state)
      → IsKept d w happened (set replicas r next)
  taking_is_kept happened replicas r e at next h is here there accepted grew fits leads =
      let old = orders_of replicas in
      let mine = get_or old r [] in
      let held = held_by happened replicas in
      let event : Event Call = event_of old h in
      let exists : slice_get held.events e ≡ Some event = get_map (event_of old) happened e h there in
      let own = own_order replicas r at here in
      let was : reads at.state ≡ state_of d w held mine = is.states r at here ∙ ap (state_of d w held) (sym own) in
      let may : taking_refused d w (view_with mine (state_of d w held mine)) e event ≡ None
      = ap (λ (l : List ℕ). taking_refused d w (view_with l (state_of d w held mine)) e event) own ∙ ap (λ (s : Reads). taking_refused d w (view_with at.order s) e event) (sym was) ∙ accepted in
      let becomes = held_taking happened replicas r e next is.fronts grew in
      let orders : orders_of (set replicas r next) ≡ set old r (mine ++ e ∷ []) = map_set (λ (x : Replica). x.order) replicas r next ∙ ap (λ (l : List ℕ). set old r l) grew in
      let still : (held_by happened (set replicas r next)).events ≡ held.events = ap (λ (x : Held). x.events) becomes in
      record {
        world = is.world;
        few = is.few;
        held = subst (IsHeld d w) (sym becomes) (taking_kept d w (record { held = held; replica = r; taken = mine }) e event is.held (own_taken replicas r at here) exists may);
        fronts = λ k i q. subst (λ (o : List (List ℕ)). i.before ≤ length (get_or o i.replica [])) (sym orders) (front_within old (set old r (mine ++ e ∷ [])) i (grown old r (e ∷ [])) (is.fronts k i q));
        fit = λ k x q. elim (get_set replicas r k next x q) [
          | inl p ↦ subst (λ (z : Replica). is_state d w z.state ≡ true) p.1 fits
          | inr o ↦ is.fit k x o
        ];
        states = λ k x q. elim (get_set replicas r k next x q) [
          | inl p ↦ subst (λ (z : Replica). reads z.state ≡ state_of d w (held_by happened (set replicas r next)) z.order) p.1
              (own_state held (held_by happened (set replicas r next)) mine next.order e event (reads at.state) (reads next.state)
              (ap (λ (es : List (Event Call)). slice_get es e) still ∙ exists)
              (ap (λ (es : List (Event Call)). state_after (system_of d w) es mine) still)
              was leads grew)
          | inr o ↦ is.states k x o ∙ ap (λ (es : List (Event Call)). state_after (system_of d w) es x.order) (sym still)
        ];
      }

  pub call_is_kept : (happened : List Happened) (replicas : List Replica) (r : ℕ) (call : Call) (at next : Replica) → IsKept d w happened replicas
      → slice_get replicas r ≡ Some at
      → call_refused d w (calls_of happened) (view_of at) call ≡ None
      → length happened + 1 < 2 ^ 32
      → next.order ≡ get_or (orders_of replicas) r [] ++ length happened ∷ []
      → is_state d w next.state ≡ true → reads next.state ≡ after d w call (reads at.state)
      → IsKept d w (happened ++ record { call = call; replica = r; before = length (get_or (orders_of replicas) r []) } ∷ []) (set replicas r next)
  call_is_kept happened replicas r call at next is here accepted few grew fits leads =
      let old = orders_of replicas in
      let mine = get_or old r [] in
      let held = held_by happened replicas in
      let one : Happened = record { call = call; replica = r; before = length mine } in
      let event : Event Call = record { call = call; seen = mine } in
      let own = own_order replicas r at here in
      let count : length held.events ≡ length happened = length_events old happened in
      let was : reads at.state ≡ state_of d w held mine = is.states r at here ∙ ap (state_of d w held) (sym own) in
      let may : call_refused d w (map (λ (v : Event Call). v.call) held.events) (view_with mine (state_of d w held mine)) call ≡ None
      = ap (λ (cs : List Call). call_refused d w cs (view_with mine (state_of d w held mine)) call) (calls_map old happened) ∙ ap (λ (l : List ℕ). call_refused d w (calls_of happened) (view_with l (state_of d w held mine)) call) own
      ∙ ap (λ (s : Reads). call_refused d w (calls_of happened) (view_with at.order s) call) (sym was) ∙ accepted in
      let becomes = held_call happened replicas r call (length happened) next (slice_get_within replicas r at here) is.fronts grew in
      let orders : orders_of (set replicas r next) ≡ set old r (mine ++ length happened ∷ []) = map_set (λ (x : Replica). x.order) replicas r next ∙ ap (λ (l : List ℕ). set old r l) grew in
      let after_it = held_by (happened ++ one ∷ []) (set replicas r next) in
      let more : after_it.events ≡ held.events ++ event ∷ [] = ap (λ (x : Held). x.events) becomes in
      let kept = call_kept d w (record { held = held; replica = r; taken = mine }) call is.held (own_taken replicas r at here) may in
      let known : IsHeld d w (record { events = held.events ++ event ∷ []; taken = set old r (mine ++ length happened ∷ []) })
      = subst (λ (n : ℕ). let x : Held = record { events = held.events ++ event ∷ []; taken = set old r (mine ++ n ∷ []) } in IsHeld d w x) count kept in
      let ordered : (k : ℕ) (x : Replica) → slice_get replicas k ≡ Some x → state_after (system_of d w) (held.events ++ event ∷ []) x.order ≡ state_after (system_of d w) held.events x.order
      = λ k x q. state_still (system_of d w) held.events (event ∷ []) x.order (is.held.orders k x.order (get_map (λ (z : Replica). z.order) replicas k x q)) in
      record {
        world = is.world;
        few = (let len = length-append happened (one ∷ []) in grind (arith, length-append));
        held = subst (IsHeld d w) (sym becomes) known;
        fronts = λ k i q. subst (λ (o : List (List ℕ)). i.before ≤ length (get_or o i.replica [])) (sym orders) (elim (front_or_last happened one k i q) [
          | inl p ↦ front_within old (set old r (mine ++ length happened ∷ [])) i (grown old r (length happened ∷ [])) (is.fronts k i p)
          | inr p ↦ subst (λ (z : Happened). z.before ≤ length (get_or (set old r (mine ++ length happened ∷ [])) z.replica [])) p.1 (front_within old (set old r (mine ++ length happened ∷ [])) one (grown old r (length happened ∷ [])) (let le : length mine ≤ length mine = omega arith in le))
        ]);
        fit = λ k x q. elim (get_set replicas r k next x q) [
          | inl p ↦ subst (λ (z : Replica). is_state d w z.state ≡ true) p.1 fits
          | inr o ↦ is.fit k x o
        ];
        states = λ k x q. elim (get_set replicas r k next x q) [
          | inl p ↦ subst (λ (z : Replica). reads z.state ≡ state_of d w after_it z.order) p.1
              (own_state held after_it mine next.order (length happened) event (reads at.state) (reads next.state)
              (ap (λ (es : List (Event Call)). slice_get es (length happened)) more ∙ ap (λ (n : ℕ). slice_get (held.events ++ event ∷ []) n) (sym count) ∙ get_last held.events event)
              (ap (λ (es : List (Event Call)). state_after (system_of d w) es mine) more ∙ ap (λ (l : List ℕ). state_after (system_of d w) (held.events ++ event ∷ []) l) own ∙ ordered r at here ∙ ap (state_after (system_of d w) held.events) (sym own))
              was leads grew)
          | inr o ↦ is.states k x o ∙ sym (ordered k x o) ∙ ap (λ (es : List (Event Call)). state_after (system_of d w) es x.order) (sym more)
        ];
      }
    where
      length_events : (old : List (List ℕ)) (hs : List Happened) → length (map (event_of old) hs) ≡ length hs
      length_events old [] = refl
      length_events old (x ∷ xs) = ap suc (length_events old xs)
