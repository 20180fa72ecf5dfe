-- Each step keeps a network.
use Rattle.std.specs.Prelude.{Contains, slice_get, Option, None, Some}
use Rattle.std.proofs.Common.{◌≡◌, ◌≢◌, ℕ, ◌+◌, ◌<◌, ◌≤◌, Bool, true, false, cond, not, ◌||◌, ◌⊎◌, inl, inr, List, [], ◌∷◌, ◌++◌, set, length, refl, sym, ◌∙◌, ap, subst, arith}
use Rattle.spec_core.specs.declared.world.World.{World}
use Rattle.spec_core.specs.declared.world.Call.{Call}
use Rattle.spec_core.specs.Specification.{Specification}
use Rattle.spec_core.specs.State.{Reads}
use Rattle.spec_core.specs.Fits.{call_fits}
use Rattle.effectors.specs.Effect.{after_call, after}
use Rattle.effectors.specs.Beyond.{Beyond, first_beyond}
use Rattle.executions.specs.Orders.{Event, AreIn, MayFollow, IsOrder}
use Rattle.executions.specs.Executions.{state_after, with_event as take_event}
use Rattle.executions.specs.Convergence.{system_of}
use Rattle.executions.proofs.Growth.{order_more, state_more}
use Rattle.token_protocol.specs.declared.message.EventId.{EventId}
use Rattle.token_protocol.specs.declared.message.Request.{Request}
use Rattle.token_protocol.specs.declared.message.Message.{Message}
use Rattle.token_protocol.specs.declared.message.Message.TheVariants as message
use Rattle.token_protocol.specs.declared.node.NodeRefused.TheVariants as refusal
use Rattle.token_protocol.specs.declared.network.NetStep.{NetStep}
use Rattle.token_protocol.specs.declared.network.NetStep.TheVariants as step
use Rattle.token_protocol.specs.Ids.{same_id, is_among, first_outside}
use Rattle.token_protocol.specs.declared.granted.Granted.{Granted}
use Rattle.token_protocol.specs.Manager.{new_grant, grant_message, grant_of, asked_with, asked}
use Rattle.token_protocol.specs.Node.{Node, Run, ran, void, run, runs, waits, refused, old, notes, takes_none, next_id, with_turn, with_waiting, without_waiting, with_taken, with_void, turn_of, begin_with, begin, first_open, grant_open, hear_grant, take_within, take_after, hear_done, hear_void, hear}
use Rattle.token_protocol.specs.Network.{Network, Replica, Happened, events_of, number_of, with_message, with_request, with_replica, run_at, begin_at, hear_at, grant_by, begins, asks, hears_message, hears, outcome, network_after}
use Rattle.token_protocol.specs.Executed.{IsVoid}
use Rattle.token_protocol.specs.Kept.{IsReplica, IsHappened, IsPast, IsOpen, IsWaiting, AreIds, IsTrueMessage, IsKept}
use Rattle.token_protocol.proofs.Places.{absent, one_found, place_of, at_place, in_front, in_last, front_or_is, found_none, found_some, get_map, set_at, set_twice}
use Rattle.token_protocol.proofs.Among.{same_ids, ids_same, contains_among, among_contains, none_outside}
use Rattle.token_protocol.proofs.Naming.{ids_more, Numbered, number_among, Identified, id_among, number_there}
use Rattle.token_protocol.proofs.Changing.{changed, MayBecome, replica_changes, MayBeVoid, message_more, request_more, with_grant, grant_more}
use Rattle.token_protocol.proofs.Running.{Licence, MayRun, run_kept}

not_both : (b : Bool) → b ≡ true → b ≡ false → ⊥
not_both b p q = cc

not_below : (n : ℕ) → n < n → ⊥
not_below n lt = omega (arith, lt)

-- ---- a replica that is changed twice
-- what a run leaves is the same, whether its replica was changed before or not
same_run : (net : Network) (r : ℕ) (at before : Replica) → before.taken ≡ at.taken → (x : Run) → network_after (changed net r before) (run_at (changed net r before) r before x) ≡ network_after net (run_at net r at x)
same_run net r at before same (ran id call seen node) =
    ap (λ (l : List Replica). let n : Network = record {
      replicas = l;
      granted = net.granted;
      requests = net.requests;
      messages = net.messages ++ message.Done id call seen ∷ [];
      happened = net.happened ++ (let h : Happened = record { id = id; event = (let e : Event Call = record { call = call; seen = before.taken } in e) } in h) ∷ [];
    } in n) (set_twice net.replicas r before (record { node = node; taken = before.taken ++ length net.happened ∷ [] }))
    ∙ ap (λ (t : List ℕ). let n : Network = record {
      replicas = set net.replicas r (let a : Replica = record { node = node; taken = t ++ length net.happened ∷ [] } in a);
      granted = net.granted;
      requests = net.requests;
      messages = net.messages ++ message.Done id call seen ∷ [];
      happened = net.happened ++ (let h : Happened = record { id = id; event = (let e : Event Call = record { call = call; seen = t } in e) } in h) ∷ [];
    } in n) same
same_run net r at before same (void cause id node) =
    ap (λ (l : List Replica). let n : Network = record {
      replicas = l;
      granted = net.granted;
      requests = net.requests;
      messages = net.messages ++ message.Void id ∷ [];
      happened = net.happened;
    } in n) (set_twice net.replicas r before (record { node = node; taken = before.taken }))
    ∙ ap (λ (t : List ℕ). let n : Network = record {
      replicas = set net.replicas r (let a : Replica = record { node = node; taken = t } in a);
      granted = net.granted;
      requests = net.requests;
      messages = net.messages ++ message.Void id ∷ [];
      happened = net.happened;
    } in n) same

module _ (d : Specification) (w : World) (net : Network) (kept : IsKept d w net) where
  module _ (r : ℕ) (at : Replica) (here : IsReplica net r at) where
    -- ---- a call
    module _ (call : Call) (fits : call_fits d w call ≡ true) (free : at.node.waiting ≡ None) where
      abbrev call_id : EventId
      call_id = next_id at.node

      abbrev turned : Replica
      turned = record { node = with_turn at.node; taken = at.taken }

      abbrev net_then : Network
      net_then = changed net r turned

      own : at.node.replica ≡ r
      own = kept.numbered r at here

      -- its id is new
      not_past : (x : EventId) → x ≡ call_id → IsPast net x → ⊥
      not_past x e past = let lt = past r at here (ap (λ (z : EventId). z.replica) (sym e)) in not_below at.node.turn (subst (λ (z : EventId). z.turn < at.node.turn) e lt)

      then_kept : IsKept d w net_then
      then_kept = replica_changes d w net kept r at turned (record {
        here = here;
        same = refl;
        later = (let le : at.node.turn ≤ at.node.turn + 1 = omega arith in le);
        waiting = λ q e. absurd (absent q (sym free ∙ e));
        voids = λ x c. kept.voids r at x here c;
        ids = kept.ids r at here;
        order = kept.orders r at here;
        state = kept.states r at here;
      })

      turned_here : IsReplica net_then r turned
      turned_here = set_at net.replicas r at turned here

      then_past : IsPast net_then call_id
      then_past s a there same =
          let place : s ≡ r = sym (then_kept.numbered s a there) ∙ same ∙ own in
          let it : turned ≡ a = one_found turned a (sym turned_here ∙ subst (λ n. slice_get net_then.replicas n ≡ Some a) place there) in
          let lt : at.node.turn < at.node.turn + 1 = omega arith in
          subst (λ (z : Replica). at.node.turn < z.node.turn) it lt

      then_open : IsOpen net_then call_id
      then_open = record {
        not_run = λ k h x e. not_past h.id e (kept.past_events k h x);
        not_void = λ v. not_past call_id refl (kept.messages (message.Void call_id) v);
      }

      abbrev request : Request
      request = record { id = call_id; call = call }

      asked_kept : IsKept d w (with_request net_then request)
      asked_kept = request_more d w net_then then_kept request then_past fits (λ p c e. not_past p.id e (kept.past_requests p c))

      abbrev waiting_replica : Replica
      waiting_replica = record { node = with_waiting (with_turn at.node) request; taken = at.taken }

      one_request : (q : Request) → Some request ≡ Some q → request ≡ q
      one_request q e = one_found request q e

      wait_kept : IsKept d w (changed (with_request net_then request) r waiting_replica)
      wait_kept = replica_changes d w (with_request net_then request) asked_kept r turned waiting_replica (record {
        here = turned_here;
        same = refl;
        later = (let le : at.node.turn + 1 ≤ at.node.turn + 1 = omega arith in le);
        waiting = λ q e. subst (λ (z : Request). IsWaiting (with_request net_then request) r z) (one_request q e) (record {
          sent = in_last net.requests request;
          own = own;
          still = record { not_run = then_open.not_run; not_void = then_open.not_void };
        });
        voids = λ x c. kept.voids r at x here c;
        ids = kept.ids r at here;
        order = kept.orders r at here;
        state = kept.states r at here;
      })

      waits_kept : IsKept d w (with_replica (with_request net request) r (with_waiting (with_turn at.node) request) at.taken)
      waits_kept = subst (IsKept d w)
          (ap (λ (l : List Replica). let n : Network = record {
            replicas = l;
            granted = net.granted;
            requests = net.requests ++ request ∷ [];
            messages = net.messages;
            happened = net.happened;
          } in n) (set_twice net.replicas r turned waiting_replica))
          wait_kept

      runs_kept : takes_none d call ≡ true → IsKept d w (network_after net (run_at net r at (run d w (with_turn at.node) call_id call)))
      runs_kept none = subst (IsKept d w) (same_run net r at turned refl (run d w (with_turn at.node) call_id call))
          (run_kept d w net_then then_kept r turned call_id call (record { here = turned_here; own = own; past = then_past; still = then_open; free = free; fits = fits; licence = inl none }))

      turn_kept : (none : Bool) → takes_none d call ≡ none → IsKept d w (network_after net (begin_at net r at (cond none (runs (run d w (with_turn at.node) call_id call)) (waits request (with_waiting (with_turn at.node) request)))))
      turn_kept true e = runs_kept e
      turn_kept false e = waits_kept

    begin_with_kept : (call : Call) (waiting : Option Request) → call_fits d w call ≡ true → at.node.waiting ≡ waiting → IsKept d w (network_after net (begin_at net r at (begin_with d w at.node call waiting)))
    begin_with_kept call (Some q) fits e = kept
    begin_with_kept call None fits e = turn_kept call fits e (takes_none d call) refl

    fitting_kept : (call : Call) (fits : Bool) → call_fits d w call ≡ fits → IsKept d w (network_after net (begin_at net r at (cond fits (begin_with d w at.node call at.node.waiting) (refused refusal.Arguments))))
    fitting_kept call true e = begin_with_kept call at.node.waiting e refl
    fitting_kept call false e = kept

    begin_kept : (call : Call) → IsKept d w (network_after net (begin_at net r at (begin d w at.node call)))
    begin_kept call = fitting_kept call (call_fits d w call) refl

    -- ---- a grant
    module _ (q : Request) (waiting : at.node.waiting ≡ Some q) (named : List EventId) (sent : IsTrueMessage net (message.Grant q.id named)) (open_ : first_open at.node named ≡ None) where
      abbrev idle : Replica
      idle = record { node = without_waiting at.node; taken = at.taken }

      abbrev net_idle : Network
      net_idle = changed net r idle

      its : IsWaiting net r q
      its = kept.waiting r at q here waiting

      idle_kept : IsKept d w net_idle
      idle_kept = replica_changes d w net kept r at idle (record {
        here = here;
        same = refl;
        later = (let le : at.node.turn ≤ at.node.turn = omega arith in le);
        waiting = λ p e. absurd (absent p e);
        voids = λ x c. kept.voids r at x here c;
        ids = kept.ids r at here;
        order = kept.orders r at here;
        state = kept.states r at here;
      })

      not_neither : (a b : Bool) → not (a || b) ≡ false → (a ≡ true) ⊎ (b ≡ true)
      not_neither true b h = inl refl
      not_neither false true h = inr refl
      not_neither false false h = absurd (not_both true refl h)

      one_of : (x : EventId) → Contains named x → Contains at.node.taken x ⊎ Contains at.node.void x
      one_of x c = elim (not_neither (is_among at.node.taken x) (is_among at.node.void x) (found_none (λ id. not (is_among at.node.taken id || is_among at.node.void id)) named open_ x c)) [
        | inl t ↦ inl (among_contains at.node.taken x t)
        | inr v ↦ inr (among_contains at.node.void x v)
      ]

      grant_licence : Licence net_idle (without_waiting at.node) q.id q.call
      grant_licence =
          let g = sent.0 in
          let place = place_of net.granted g sent.1 in
          let requested = (kept.grants place.0 g place.1).requested in
          record {
            grant = g;
            granted = sent.1;
            id = sent.2;
            call = kept.one_call (record { id = g.id; call = g.call }) q requested its.sent sent.2;
            named = λ x c. one_of x (subst (λ (l : List EventId). Contains l x) sent.3 c);
          }

      granted_kept : IsKept d w (network_after net (run_at net r at (run d w (without_waiting at.node) q.id q.call)))
      granted_kept = subst (IsKept d w) (same_run net r at idle refl (run d w (without_waiting at.node) q.id q.call))
          (run_kept d w net_idle idle_kept r idle q.id q.call (record {
            here = set_at net.replicas r at idle here;
            own = its.own;
            past = idle_kept.past_requests q its.sent;
            still = record { not_run = its.still.not_run; not_void = its.still.not_void };
            free = refl;
            fits = kept.requests_fit q its.sent;
            licence = inr grant_licence;
          }))

    grant_open_kept : (q : Request) → at.node.waiting ≡ Some q → (named : List EventId) → IsTrueMessage net (message.Grant q.id named) → (o : Option EventId) → first_open at.node named ≡ o
        → IsKept d w (network_after net (hear_at net r at (grant_open d w at.node q o)))
    grant_open_kept q waiting named sent (Some x) e = kept
    grant_open_kept q waiting named sent None e = granted_kept q waiting named sent e

    same_kept : (q : Request) → at.node.waiting ≡ Some q → (id : EventId) (named : List EventId) → IsTrueMessage net (message.Grant id named) → (b : Bool) → same_id q.id id ≡ b
        → IsKept d w (network_after net (hear_at net r at (cond b (grant_open d w at.node q (first_open at.node named)) old)))
    same_kept q waiting id named sent true e = grant_open_kept q waiting named (subst (λ x. IsTrueMessage net (message.Grant x named)) (sym (same_ids q.id id e)) sent) (first_open at.node named) refl
    same_kept q waiting id named sent false e = kept

    hear_grant_kept : (id : EventId) (named : List EventId) → IsTrueMessage net (message.Grant id named) → (waiting : Option Request) → at.node.waiting ≡ waiting
        → IsKept d w (network_after net (hear_at net r at (hear_grant d w at.node id named waiting)))
    hear_grant_kept id named sent None e = kept
    hear_grant_kept id named sent (Some q) e = same_kept q e id named sent (same_id q.id id) refl

    -- ---- a Done
    module _ (id : EventId) (call : Call) (seen : List EventId) (sent : IsTrueMessage net (message.Done id call seen)) (new : is_among at.node.taken id ≡ false) (all : first_outside at.node.taken seen ≡ None) where
      abbrev k : ℕ
      k = sent.0

      abbrev h : Happened
      h = sent.1

      abbrev number : ℕ
      number = number_of net.happened id

      is_number : number ≡ k
      is_number = let n = number_there net.happened id k h sent.2 sent.3 in kept.one_event number k n.0 h n.1 sent.2 (n.2 ∙ sym sent.3)

      the_event_there : slice_get (events_of net) k ≡ Some h.event
      the_event_there = get_map (λ (x : Happened). x.event) net.happened k h sent.2

      not_taken : ¬ Contains at.taken k
      not_taken c =
          let n = id_among net.happened at.taken at.node.taken (kept.ids r at here) k c in
          let same : n.event ≡ h = one_found n.event h (sym n.here ∙ sent.2) in
          not_both (is_among at.node.taken id) (contains_among at.node.taken id (subst (Contains at.node.taken) (ap (λ (x : Happened). x.id) same ∙ sent.3) n.among)) new

      all_taken : AreIn h.event.seen at.taken
      all_taken x c =
          let i = id_among net.happened h.event.seen seen sent.5 x c in
          let n = number_among net.happened at.taken at.node.taken (kept.ids r at here) i.event.id (none_outside at.node.taken seen all i.event.id i.among) in
          subst (Contains at.taken) (kept.one_event n.number x n.event i.event n.here i.here n.is) n.among

      may_follow : MayFollow (events_of net) at.taken k
      may_follow = record { event = h.event; exists = the_event_there; new = not_taken; after = all_taken }

      abbrev taken_replica : Replica
      taken_replica = record { node = with_taken d w at.node id call; taken = at.taken ++ number ∷ [] }

      event_leads : (x : Reads) → take_event (system_of d w) (events_of net) x k ≡ after d w h.event.call x
      event_leads x = rw (the_event_there, take_event) refl

      taken_state : after d w call at.node.state ≡ state_after (system_of d w) (events_of net) (at.taken ++ number ∷ [])
      taken_state =
          ap (λ (c : Call). after d w c at.node.state) (sym sent.4)
          ∙ ap (after d w h.event.call) (kept.states r at here)
          ∙ sym (event_leads (state_after (system_of d w) (events_of net) at.taken))
          ∙ sym (state_more (system_of d w) (events_of net) at.taken k)
          ∙ ap (λ n. state_after (system_of d w) (events_of net) (at.taken ++ n ∷ [])) (sym is_number)

      took_kept : IsKept d w (changed net r taken_replica)
      took_kept = replica_changes d w net kept r at taken_replica (record {
        here = here;
        same = refl;
        later = (let le : at.node.turn ≤ at.node.turn = omega arith in le);
        waiting = λ q e. kept.waiting r at q here e;
        voids = λ x c. kept.voids r at x here c;
        ids = ids_more net.happened at.taken at.node.taken number h id (kept.ids r at here) (ap (slice_get net.happened) is_number ∙ sent.2) sent.3;
        order = subst (λ n. IsOrder (events_of net) (at.taken ++ n ∷ [])) (sym is_number) (order_more (events_of net) at.taken k (kept.orders r at here) may_follow);
        state = taken_state;
      })

      take_within_kept : (b : Option Beyond) → IsKept d w (network_after net (hear_at net r at (take_within d w at.node id call b)))
      take_within_kept (Some b) = kept
      take_within_kept None = took_kept

    take_after_kept : (id : EventId) (call : Call) (seen : List EventId) → IsTrueMessage net (message.Done id call seen) → is_among at.node.taken id ≡ false → (o : Option EventId) → first_outside at.node.taken seen ≡ o
        → IsKept d w (network_after net (hear_at net r at (take_after d w at.node id call o)))
    take_after_kept id call seen sent new (Some x) e = kept
    take_after_kept id call seen sent new None e = take_within_kept id call seen sent new e (first_beyond 0 (after_call d w call at.node.state).counters)

    hear_done_kept : (id : EventId) (call : Call) (seen : List EventId) → IsTrueMessage net (message.Done id call seen) → (b : Bool) → is_among at.node.taken id ≡ b
        → IsKept d w (network_after net (hear_at net r at (cond b old (take_after d w at.node id call (first_outside at.node.taken seen)))))
    hear_done_kept id call seen sent true e = kept
    hear_done_kept id call seen sent false e = take_after_kept id call seen sent e (first_outside at.node.taken seen) refl

    -- ---- a Void
    abbrev noting_replica : EventId → Replica
    noting_replica id = record { node = with_void at.node id; taken = at.taken }

    noted_kept : (id : EventId) → IsVoid net id → IsKept d w (changed net r (noting_replica id))
    noted_kept id sent = replica_changes d w net kept r at (noting_replica id) (record {
      here = here;
      same = refl;
      later = (let le : at.node.turn ≤ at.node.turn = omega arith in le);
      waiting = λ q e. kept.waiting r at q here e;
      voids = λ x c. elim (front_or_is at.node.void id x c) [ inl before ↦ kept.voids r at x here before | inr e ↦ subst (IsVoid net) e sent ];
      ids = kept.ids r at here;
      order = kept.orders r at here;
      state = kept.states r at here;
    })

    hear_void_kept : (id : EventId) → IsVoid net id → (b : Bool) → IsKept d w (network_after net (hear_at net r at (cond b old (notes (with_void at.node id)))))
    hear_void_kept id sent true = kept
    hear_void_kept id sent false = noted_kept id sent

    hear_kept : (m : Message) → Contains net.messages m → IsKept d w (network_after net (hear_at net r at (hear d w at.node m)))
    hear_kept (message.Grant id named) c = hear_grant_kept id named (kept.messages (message.Grant id named) c) at.node.waiting refl
    hear_kept (message.Done id call seen) c = hear_done_kept id call seen (kept.messages (message.Done id call seen) c) (is_among at.node.taken id) refl
    hear_kept (message.Void id) c = hear_void_kept id c (is_among at.node.void id)

    hears_kept : (m : Option Message) (i : ℕ) → slice_get net.messages i ≡ m → IsKept d w (network_after net (hears_message d w net r at m))
    hears_kept None i e = kept
    hears_kept (Some m) i e = hear_kept m (at_place net.messages i m e)

  -- ---- the manager
  no_void : (g : Granted) (x : EventId) → grant_message g ≡ message.Void x → ⊥
  no_void g x e = cc

  none_granted : (request : Request) → grant_of net.granted request.id ≡ None → (g : Granted) → Contains net.granted g → g.id ≢ request.id
  none_granted request e g c same = not_both (same_id g.id request.id) (ids_same g.id request.id same) (found_none (λ (g : Granted). same_id g.id request.id) net.granted e g c)

  asked_kept_with : (request : Request) → Contains net.requests request → (o : Option Granted) → grant_of net.granted request.id ≡ o → IsKept d w (network_after net (grant_by net (asked_with d w net.granted request o)))
  asked_kept_with request sent (Some g) e =
      message_more d w net kept (grant_message g) (g, (found_some (λ (x : Granted). same_id x.id request.id) net.granted g e).0, refl, refl) (λ x v. absurd (no_void g x v))
  asked_kept_with request sent None e =
      let new = none_granted request e in
      message_more d w (with_grant d w net kept request sent new) (grant_more d w net kept request sent new) (grant_message (new_grant d w net.granted request))
      (new_grant d w net.granted request, in_last net.granted (new_grant d w net.granted request), refl, refl)
      (λ x v. absurd (no_void (new_grant d w net.granted request) x v))

  asks_kept : (q : Option Request) (i : ℕ) → slice_get net.requests i ≡ q → IsKept d w (network_after net (asks d w net q))
  asks_kept None i e = kept
  asks_kept (Some request) i e = asked_kept_with request (at_place net.requests i request e) (grant_of net.granted request.id) refl

  begins_kept : (r : ℕ) (call : Call) (at : Option Replica) → slice_get net.replicas r ≡ at → IsKept d w (network_after net (begins d w net r call at))
  begins_kept r call None e = kept
  begins_kept r call (Some at) e = begin_kept r at e call

  hears_at_kept : (r : ℕ) (at : Option Replica) → slice_get net.replicas r ≡ at → (i : ℕ) → IsKept d w (network_after net (hears d w net r (slice_get net.messages i) at))
  hears_at_kept r None e i = kept
  hears_at_kept r (Some at) e i = hears_kept r at e (slice_get net.messages i) i refl

  pub step_kept : (s : NetStep) → IsKept d w (network_after net (outcome d w net s))
  step_kept (step.Begin r call) = begins_kept r call (slice_get net.replicas r) refl
  step_kept (step.Ask q) = asks_kept (slice_get net.requests q) q refl
  step_kept (step.Hear r m) = hears_at_kept r (slice_get net.replicas r) refl m
