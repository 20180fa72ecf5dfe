-- The parts of a step keep a network: a replica changes, a message or a request is sent, a grant is made, a call happens.
use Rattle.std.specs.Prelude.{Contains, slice_get, Some, map}
use Rattle.std.proofs.Common.{◌≡◌, ◌≢◌, ℕ, ◌+◌, ◌<◌, ◌≤◌, true, false, ◌⊎◌, inl, inr, List, [], ◌∷◌, ◌++◌, set, take, length, refl, sym, ◌∙◌, ap, subst, arith}
use Rattle.std.proofs.lemmas.Option.{slice_get_within}
use Rattle.std.proofs.lemmas.List.{take-append-le}
use Rattle.std.proofs.Math.Seq.{take-append_seam}
use Rattle.spec_core.specs.declared.world.World.{World}
use Rattle.spec_core.specs.declared.world.Call.{Call}
use Rattle.spec_core.specs.Specification.{Specification}
use Rattle.spec_core.specs.State.{Reads}
use Rattle.spec_core.specs.Fits.{call_fits}
use Rattle.executions.specs.Orders.{Event, IsOrder}
use Rattle.executions.specs.Executions.{state_after, Happens, IsExecution}
use Rattle.executions.specs.Convergence.{system_of}
use Rattle.executions.proofs.Growth.{get_front, get_last, front_or_last, order_still, state_still, execution_more}
use Rattle.token_protocol.specs.declared.message.EventId.{EventId}
use Rattle.token_protocol.specs.declared.message.Request.{Request}
use Rattle.token_protocol.specs.declared.message.Message.{Message}
use Rattle.token_protocol.specs.declared.message.Message.TheVariants as message
use Rattle.token_protocol.specs.declared.granted.Granted.{Granted}
use Rattle.token_protocol.specs.Manager.{conflicting, new_grant}
use Rattle.token_protocol.specs.Node.{takes_none}
use Rattle.token_protocol.specs.Network.{Network, Replica, Happened, events_of, with_message, with_request, with_event}
use Rattle.token_protocol.specs.Executed.{IsVoid, RanByGrant}
use Rattle.token_protocol.specs.Kept.{IsReplica, IsHappened, IsPast, IsOpen, IsWaiting, AreIds, IsGrantAt, IsTrueMessage, IsKept}
use Rattle.token_protocol.proofs.Places.{at_place, in_front, in_last, front_or_is, get_set, map_more, length_map}
use Rattle.token_protocol.proofs.Naming.{ids_still}
use Rattle.token_protocol.proofs.Growing.{Grows, ran_still, true_still, open_still, waiting_still}

-- ---- a replica changes
abbrev pub changed : Network → ℕ → Replica → Network
changed net r next = record net { replicas = set net.replicas r next }

-- what a replica has to be after a change
pub record MayBecome (d : Specification) (w : World) (net : Network) (r : ℕ) (at next : Replica) : Type 0 where
  pub here : IsReplica net r at
  pub same : next.node.replica ≡ at.node.replica
  pub later : at.node.turn ≤ next.node.turn
  pub waiting : (q : Request) → next.node.waiting ≡ Some q → IsWaiting net r q
  pub voids : (id : EventId) → Contains next.node.void id → IsVoid net id
  pub ids : AreIds net.happened next.taken next.node.taken
  pub order : IsOrder (events_of net) next.taken
  pub state : next.node.state ≡ state_after (system_of d w) (events_of net) next.taken

module _ (d : Specification) (w : World) (net : Network) (kept : IsKept d w net) where
  module _ (r : ℕ) (at next : Replica) (may : MayBecome d w net r at next) where
    -- what holds of the replica and held of all
    for_all : (P : ℕ → Replica → Type 0) → P r next → ((s : ℕ) (a : Replica) → IsReplica net s a → P s a) → (s : ℕ) (a : Replica) → IsReplica (changed net r next) s a → P s a
    for_all P new old s a here = elim (get_set net.replicas r s next a here) [
      | inl p ↦ subst (λ x. P s x) p.1 (subst (λ n. P n next) (sym p.0) new)
      | inr q ↦ old s a q
    ]

    past_changed : (id : EventId) → IsPast net id → IsPast (changed net r next) id
    past_changed id past =
        for_all (λ s a. a.node.replica ≡ id.replica → id.turn < a.node.turn)
        (λ e. let lt = past r at may.here (sym may.same ∙ e) in omega (arith, lt, may.later))
        past

    change_grows : Grows net (changed net r next)
    change_grows = record {
      happened = λ k h x. x;
      ids = λ ks ids x. x;
      granted = λ g x. x;
      requests = λ q x. x;
      messages = λ m x. x;
      past = past_changed;
    }

    waiting_changed : (s : ℕ) (q : Request) → IsWaiting net s q → IsWaiting (changed net r next) s q
    waiting_changed s q is = waiting_still net (changed net r next) s q change_grows (open_still net (changed net r next) q.id (λ k h x. inl x) (λ v. v) is.still) is

    pub replica_changes : IsKept d w (changed net r next)
    replica_changes = record {
      numbered = for_all (λ s a. a.node.replica ≡ s) (may.same ∙ kept.numbered r at may.here) kept.numbered;
      waiting = λ s a q here is. for_all (λ s a. a.node.waiting ≡ Some q → IsWaiting (changed net r next) s q)
          (λ e. waiting_changed r q (may.waiting q e))
          (λ s a here e. waiting_changed s q (kept.waiting s a q here e))
          s a here is;
      voids = λ s a id here c. for_all (λ s a. Contains a.node.void id → IsVoid net id) (may.voids id) (λ s a here c. kept.voids s a id here c) s a here c;
      ids = for_all (λ s a. AreIds net.happened a.taken a.node.taken) may.ids kept.ids;
      orders = for_all (λ s a. IsOrder (events_of net) a.taken) may.order kept.orders;
      states = for_all (λ s a. a.node.state ≡ state_after (system_of d w) (events_of net) a.taken) may.state kept.states;
      past_requests = λ q c. past_changed q.id (kept.past_requests q c);
      requests_fit = kept.requests_fit;
      one_call = kept.one_call;
      grants = λ i g h. (let is = kept.grants i g h in record { requested = is.requested; named = is.named });
      one_grant = kept.one_grant;
      messages = λ m c. true_still net (changed net r next) change_grows m (kept.messages m c);
      past_events = λ k h x. past_changed h.id (kept.past_events k h x);
      one_event = kept.one_event;
      not_void = kept.not_void;
      by_grant = λ k h x t. ran_still net (changed net r next) change_grows h (kept.by_grant k h x t);
      calls_fit = kept.calls_fit;
      run = kept.run;
    }

  -- ---- a message is sent
  -- no call with this id was run, and none waits
  pub record MayBeVoid (id : EventId) : Type 0 where
    pub not_run : (k : ℕ) (h : Happened) → IsHappened net k h → h.id ≢ id
    pub not_waiting : (s : ℕ) (a : Replica) (q : Request) → IsReplica net s a → a.node.waiting ≡ Some q → q.id ≢ id

  module _ (m : Message) (true_ : IsTrueMessage net m) (may : (id : EventId) → m ≡ message.Void id → MayBeVoid id) where
    message_grows : Grows net (with_message net m)
    message_grows = record {
      happened = λ k h x. x;
      ids = λ ks ids x. x;
      granted = λ g x. x;
      requests = λ q x. x;
      messages = λ o c. in_front net.messages m o c;
      past = λ id x. x;
    }

    void_before : (id : EventId) → (m ≡ message.Void id → ⊥) → IsVoid (with_message net m) id → IsVoid net id
    void_before id no_void v = elim (front_or_is net.messages m (message.Void id) v) [ inl c ↦ c | inr e ↦ absurd (no_void e) ]

    pub message_more : IsKept d w (with_message net m)
    message_more = record {
      numbered = kept.numbered;
      waiting = λ s a q here e.
          (let is = kept.waiting s a q here e in
          waiting_still net (with_message net m) s q message_grows
          (open_still net (with_message net m) q.id (λ k h x. inl x) (void_before q.id (λ v. (may q.id v).not_waiting s a q here e refl)) is.still) is);
      voids = λ s a id here c. in_front net.messages m (message.Void id) (kept.voids s a id here c);
      ids = kept.ids;
      orders = kept.orders;
      states = kept.states;
      past_requests = kept.past_requests;
      requests_fit = kept.requests_fit;
      one_call = kept.one_call;
      grants = λ i g h. (let is = kept.grants i g h in record { requested = is.requested; named = is.named });
      one_grant = kept.one_grant;
      messages = λ o c. elim (front_or_is net.messages m o c) [
        | inl old ↦ true_still net (with_message net m) message_grows o (kept.messages o old)
        | inr e ↦ true_still net (with_message net m) message_grows o (subst (IsTrueMessage net) e true_)
      ];
      past_events = kept.past_events;
      one_event = kept.one_event;
      not_void = λ k h x v. kept.not_void k h x (void_before h.id (λ e. (may h.id e).not_run k h x refl) v);
      by_grant = λ k h x t. ran_still net (with_message net m) message_grows h (kept.by_grant k h x t);
      calls_fit = kept.calls_fit;
      run = kept.run;
    }

  -- ---- a request is sent
  module _ (request : Request) (past : IsPast net request.id) (fits : call_fits d w request.call ≡ true) (new : (p : Request) → Contains net.requests p → p.id ≢ request.id) where
    request_grows : Grows net (with_request net request)
    request_grows = record {
      happened = λ k h x. x;
      ids = λ ks ids x. x;
      granted = λ g x. x;
      requests = λ q c. in_front net.requests request q c;
      messages = λ m x. x;
      past = λ id x. x;
    }

    pub request_more : IsKept d w (with_request net request)
    request_more = record {
      numbered = kept.numbered;
      waiting = λ s a q here e.
          (let is = kept.waiting s a q here e in
          waiting_still net (with_request net request) s q request_grows (open_still net (with_request net request) q.id (λ k h x. inl x) (λ v. v) is.still) is);
      voids = kept.voids;
      ids = kept.ids;
      orders = kept.orders;
      states = kept.states;
      past_requests = λ q c. elim (front_or_is net.requests request q c) [ inl o ↦ kept.past_requests q o | inr e ↦ subst (λ (z : Request). IsPast net z.id) e past ];
      requests_fit = λ q c. elim (front_or_is net.requests request q c) [ inl o ↦ kept.requests_fit q o | inr e ↦ subst (λ (z : Request). call_fits d w z.call ≡ true) e fits ];
      one_call = λ p q cp cq same. elim (front_or_is net.requests request p cp) [
        | inl op ↦ elim (front_or_is net.requests request q cq) [
          | inl oq ↦ kept.one_call p q op oq same
          | inr eq ↦ absurd (new p op (same ∙ ap (λ (z : Request). z.id) (sym eq)))
        ]
        | inr ep ↦ elim (front_or_is net.requests request q cq) [
          | inl oq ↦ absurd (new q oq (sym same ∙ ap (λ (z : Request). z.id) (sym ep)))
          | inr eq ↦ ap (λ (z : Request). z.call) (sym ep ∙ eq)
        ]
      ];
      grants = λ i g h. (let is = kept.grants i g h in record { requested = request_grows.requests _ is.requested; named = is.named });
      one_grant = kept.one_grant;
      messages = λ m c. true_still net (with_request net request) request_grows m (kept.messages m c);
      past_events = kept.past_events;
      one_event = kept.one_event;
      not_void = kept.not_void;
      by_grant = λ k h x t. ran_still net (with_request net request) request_grows h (kept.by_grant k h x t);
      calls_fit = kept.calls_fit;
      run = kept.run;
    }

  -- ---- a grant is made
  module _ (request : Request) (sent : Contains net.requests request) (new : (g : Granted) → Contains net.granted g → g.id ≢ request.id) where
    abbrev the_grant : Granted
    the_grant = new_grant d w net.granted request

    abbrev pub with_grant : Network
    with_grant = record net { granted = net.granted ++ new_grant d w net.granted request ∷ [] }

    grant_grows : Grows net with_grant
    grant_grows = record {
      happened = λ k h x. x;
      ids = λ ks ids x. x;
      granted = λ g c. in_front net.granted the_grant g c;
      requests = λ q x. x;
      messages = λ m x. x;
      past = λ id x. x;
    }

    old_is_new : (g : Granted) (i : ℕ) → slice_get net.granted i ≡ Some g → g.id ≢ the_grant.id
    old_is_new g i h = new g (at_place net.granted i g h)

    grant_at : (i : ℕ) (g : Granted) → slice_get with_grant.granted i ≡ Some g → IsGrantAt d w with_grant i g
    grant_at i g h = elim (front_or_last net.granted the_grant i g h) [
      | inl o ↦ (let is = kept.grants i g o in
          let lt = slice_get_within net.granted i g o in
          let le : i ≤ length net.granted = omega (arith, lt) in
          record {
            requested = is.requested;
            named = is.named ∙ ap (λ (l : List Granted). conflicting d w l g.call) (sym (take-append-le i net.granted (the_grant ∷ []) le));
          })
      | inr p ↦ subst (IsGrantAt d w with_grant i) p.1 (subst (λ (n : ℕ). IsGrantAt d w with_grant n the_grant) (sym p.0) (record {
        requested = sent;
        named = ap (λ (l : List Granted). conflicting d w l request.call) (sym (take-append_seam net.granted (the_grant ∷ [])));
      }))
    ]

    pub grant_more : IsKept d w with_grant
    grant_more = record {
      numbered = kept.numbered;
      waiting = λ s a q here e.
          (let is = kept.waiting s a q here e in
          waiting_still net with_grant s q grant_grows (open_still net with_grant q.id (λ k h x. inl x) (λ v. v) is.still) is);
      voids = kept.voids;
      ids = kept.ids;
      orders = kept.orders;
      states = kept.states;
      past_requests = kept.past_requests;
      requests_fit = kept.requests_fit;
      one_call = kept.one_call;
      grants = grant_at;
      one_grant = λ i j g h hi hj same. elim (front_or_last net.granted the_grant i g hi) [
        | inl oi ↦ elim (front_or_last net.granted the_grant j h hj) [
          | inl oj ↦ kept.one_grant i j g h oi oj same
          | inr pj ↦ absurd (old_is_new g i oi (same ∙ ap (λ (z : Granted). z.id) (sym pj.1)))
        ]
        | inr pi ↦ elim (front_or_last net.granted the_grant j h hj) [
          | inl oj ↦ absurd (old_is_new h j oj (sym same ∙ ap (λ (z : Granted). z.id) (sym pi.1)))
          | inr pj ↦ pi.0 ∙ sym pj.0
        ]
      ];
      messages = λ m c. true_still net with_grant grant_grows m (kept.messages m c);
      past_events = kept.past_events;
      one_event = kept.one_event;
      not_void = kept.not_void;
      by_grant = λ k h x t. ran_still net with_grant grant_grows h (kept.by_grant k h x t);
      calls_fit = kept.calls_fit;
      run = kept.run;
    }

  -- ---- a call happens
  module _ (id : EventId) (event : Event Call) where
    abbrev the_event : Happened
    the_event = record { id = id; event = event }

    -- what is asked of a call that happens
    pub record MayHappen : Type 0 where
      pub past : IsPast net id
      pub still : IsOpen net id
      pub not_waiting : (s : ℕ) (a : Replica) (q : Request) → IsReplica net s a → a.node.waiting ≡ Some q → q.id ≢ id
      pub fits : call_fits d w event.call ≡ true
      pub happens : Happens (system_of d w) (events_of net ++ event ∷ []) (length (events_of net)) event
      pub by_grant : takes_none d event.call ≡ false → RanByGrant net the_event

    event_grows : Grows net (with_event net id event)
    event_grows = record {
      happened = λ k h x. get_front net.happened (the_event ∷ []) k h x;
      ids = λ ks ids a. ids_still net.happened (the_event ∷ []) ks ids a;
      granted = λ g x. x;
      requests = λ q x. x;
      messages = λ m x. x;
      past = λ id x. x;
    }

    pub events_more : events_of (with_event net id event) ≡ events_of net ++ event ∷ []
    events_more = map_more (λ (h : Happened). h.event) net.happened the_event

    -- what holds of the new event and held of all
    for_each : (P : ℕ → Happened → Type 0) → P (length net.happened) the_event → ((k : ℕ) (h : Happened) → IsHappened net k h → P k h) → (k : ℕ) (h : Happened) → IsHappened (with_event net id event) k h → P k h
    for_each P new old k h here = elim (front_or_last net.happened the_event k h here) [
      | inl o ↦ old k h o
      | inr p ↦ subst (λ x. P k x) p.1 (subst (λ n. P n the_event) (sym p.0) new)
    ]

    module _ (may : MayHappen) where
      still_open : (other : EventId) → other ≢ id → IsOpen net other → IsOpen (with_event net id event) other
      still_open other ne is = open_still net (with_event net id event) other
          (for_each (λ k h. IsHappened net k h ⊎ (h.id ≢ other)) (inr (λ e. ne (sym e))) (λ k h x. inl x)) (λ v. v) is

      pub event_more : IsKept d w (with_event net id event)
      event_more = record {
        numbered = kept.numbered;
        waiting = λ s a q here e.
            (let is = kept.waiting s a q here e in
            waiting_still net (with_event net id event) s q event_grows (still_open q.id (may.not_waiting s a q here e) is.still) is);
        voids = kept.voids;
        ids = λ s a here. event_grows.ids a.taken a.node.taken (kept.ids s a here);
        orders = λ s a here. subst (λ (l : List (Event Call)). IsOrder l a.taken) (sym events_more) (order_still (events_of net) (event ∷ []) a.taken (kept.orders s a here));
        states = λ s a here. kept.states s a here ∙ sym (state_still (system_of d w) (events_of net) (event ∷ []) a.taken (kept.orders s a here)) ∙ ap (λ (l : List (Event Call)). state_after (system_of d w) l a.taken) (sym events_more);
        past_requests = kept.past_requests;
        requests_fit = kept.requests_fit;
        one_call = kept.one_call;
        grants = λ i g h. (let is = kept.grants i g h in record { requested = is.requested; named = is.named });
        one_grant = kept.one_grant;
        messages = λ m c. true_still net (with_event net id event) event_grows m (kept.messages m c);
        past_events = for_each (λ k h. IsPast net h.id) may.past kept.past_events;
        one_event = λ i j g h hi hj same. elim (front_or_last net.happened the_event i g hi) [
          | inl oi ↦ elim (front_or_last net.happened the_event j h hj) [
            | inl oj ↦ kept.one_event i j g h oi oj same
            | inr pj ↦ absurd (may.still.not_run i g oi (same ∙ ap (λ (z : Happened). z.id) (sym pj.1)))
          ]
          | inr pi ↦ elim (front_or_last net.happened the_event j h hj) [
            | inl oj ↦ absurd (may.still.not_run j h oj (sym same ∙ ap (λ (z : Happened). z.id) (sym pi.1)))
            | inr pj ↦ pi.0 ∙ sym pj.0
          ]
        ];
        not_void = for_each (λ k h. ¬ IsVoid net h.id) may.still.not_void kept.not_void;
        by_grant = λ k h here t. for_each (λ k h. takes_none d h.event.call ≡ false → RanByGrant (with_event net id event) h)
            (λ t. ran_still net (with_event net id event) event_grows the_event (may.by_grant t))
            (λ k h x t. ran_still net (with_event net id event) event_grows h (kept.by_grant k h x t)) k h here t;
        calls_fit = for_each (λ k h. call_fits d w h.event.call ≡ true) may.fits kept.calls_fit;
        run = subst (IsExecution (system_of d w)) (sym events_more) (execution_more (system_of d w) (events_of net) event kept.run may.happens);
      }
