-- A call that is run: the event happens as an execution asks, and the network is kept.
use Rattle.std.specs.Prelude.{Contains, slice_get, Option, None, Some, is_none, map}
use Rattle.std.specs.List.{list_all}
use Rattle.std.proofs.Common.{◌≡◌, ◌≢◌, ℕ, ◌+◌, ◌<◌, ◌≤◌, Bool, true, false, ◌⊎◌, inl, inr, List, [], ◌∷◌, ◌++◌, set, take, length, refl, sym, ◌∙◌, ap, subst, arith}
use Rattle.spec_core.specs.declared.world.World.{World}
use Rattle.spec_core.specs.declared.world.Call.{Call}
use Rattle.spec_core.specs.Specification.{Specification, op_of}
use Rattle.spec_core.specs.State.{Reads}
use Rattle.spec_core.specs.Truth.{line_true}
use Rattle.spec_core.specs.Meaning.{first_false, pre, observed}
use Rattle.spec_core.specs.Fits.{is_call, call_fits, in_state_range}
use Rattle.spec_core.proofs.Lists.{both}
use Rattle.spec_core.proofs.Positions.{position_none}
use Rattle.effectors.specs.Effect.{after_call, after}
use Rattle.effectors.specs.Beyond.{first_beyond}
use Rattle.token_rules.specs.Conflict.{conflicts}
use Rattle.executions.specs.Orders.{Event, IsOrder}
use Rattle.executions.specs.Executions.{state_after, Happens, IsExecution, with_event as take_event}
use Rattle.executions.specs.Convergence.{system_of}
use Rattle.executions.proofs.Growth.{get_last, front_or_last, order_more, order_still, order_within, new_may_follow, state_still, state_more}
use Rattle.token_protocol.specs.declared.message.EventId.{EventId}
use Rattle.token_protocol.specs.declared.message.Request.{Request}
use Rattle.token_protocol.specs.declared.message.Message.{Message}
use Rattle.token_protocol.specs.declared.message.Message.TheVariants as message
use Rattle.token_protocol.specs.declared.node.WhyVoid.{WhyVoid}
use Rattle.token_protocol.specs.declared.granted.Granted.{Granted}
use Rattle.token_protocol.specs.Manager.{conflicting}
use Rattle.token_protocol.specs.Node.{Node, because, false_requires, false_observes, beyond_range, why_void, with_taken, with_void, Run, ran, void, run_with, run, takes_none}
use Rattle.token_protocol.specs.Network.{Network, Replica, Happened, events_of, with_message, with_event, with_replica, run_at, network_after}
use Rattle.token_protocol.specs.Executed.{IsVoid, IsOneOf, RanByGrant}
use Rattle.token_protocol.specs.Kept.{IsReplica, IsHappened, IsPast, IsOpen, IsWaiting, AreIds, IsKept}
use Rattle.token_protocol.proofs.Places.{absent, one_found, place_of, in_front, in_last, front_or_is, map_get, get_map, length_map}
use Rattle.token_protocol.proofs.Conflicting.{conflicts_symmetric, left_takes, right_takes, names}
use Rattle.token_protocol.proofs.Naming.{ids_still, ids_more, Numbered, number_among}
use Rattle.token_protocol.proofs.Changing.{changed, MayBecome, replica_changes, MayBeVoid, message_more, MayHappen, events_more, event_more}

-- ---- a call that isn't void
because_none : {A : Type 0} (o : Option A) (cause : A → WhyVoid) (next : Option WhyVoid) → because o cause next ≡ None → (o ≡ None) × (next ≡ None)
because_none None cause next h = (refl, h)
because_none (Some a) cause next h = absurd (absent (cause a) (sym h))

pub record IsReady (d : Specification) (w : World) (r : Reads) (call : Call) : Type 0 where
  pub ready : pre d w call r ≡ true
  pub observed : observed d w call r ≡ true

pub not_void_is_ready : (d : Specification) (w : World) (r : Reads) (call : Call) → why_void d w r call ≡ None → IsReady d w r call
not_void_is_ready d w r call h =
    let a = because_none (first_false w r call.args (op_of d call.op).requires_) false_requires _ h in
    let b = because_none (first_false w r call.args (op_of d call.op).observes) false_observes _ a.1 in
    record {
      ready = sym (position_none (line_true w r call.args) 0 (op_of d call.op).requires_) ∙ ap is_none a.0;
      observed = sym (position_none (line_true w r call.args) 0 (op_of d call.op).observes) ∙ ap is_none b.0;
    }

-- two places are in an order
order_of : (i j : ℕ) → (i < j) ⊎ ((i ≡ j) ⊎ (j < i))
order_of i j = grind arith

not_both : (b : Bool) → b ≡ true → b ≡ false → ⊥
not_both b p q = cc

-- the grant of a call that a node may run: what it names the node has taken or knows as void
pub record Licence (net : Network) (node : Node) (its_id : EventId) (its_call : Call) : Type 0 where
  pub grant : Granted
  pub granted : Contains net.granted grant
  pub id : grant.id ≡ its_id
  pub call : grant.call ≡ its_call
  pub named : (x : EventId) → Contains grant.after x → Contains node.taken x ⊎ Contains node.void x

-- what is asked of a call that a replica runs
pub record MayRun (d : Specification) (w : World) (net : Network) (r : ℕ) (at : Replica) (id : EventId) (call : Call) : Type 0 where
  pub here : IsReplica net r at
  pub own : id.replica ≡ r
  pub past : IsPast net id
  pub still : IsOpen net id
  pub free : at.node.waiting ≡ None
  pub fits : call_fits d w call ≡ true
  pub licence : (takes_none d call ≡ true) ⊎ Licence net at.node id call

module _ (d : Specification) (w : World) (net : Network) (kept : IsKept d w net) (r : ℕ) (at : Replica) (id : EventId) (call : Call) (may : MayRun d w net r at id call) where
  abbrev events : List (Event Call)
  events = events_of net

  abbrev the_event : Event Call
  the_event = record { call = call; seen = at.taken }

  abbrev the_order : IsOrder events at.taken
  the_order = kept.orders r at may.here

  -- no node waits for it
  not_waiting : (s : ℕ) (a : Replica) (q : Request) → IsReplica net s a → a.node.waiting ≡ Some q → q.id ≢ id
  not_waiting s a q here e same =
      let is = kept.waiting s a q here e in
      let place : s ≡ r = sym is.own ∙ ap (λ (z : EventId). z.replica) same ∙ may.own in
      let it : at ≡ a = one_found at a (sym may.here ∙ subst (λ n. slice_get net.replicas n ≡ Some a) place here) in
      absent q (sym may.free ∙ ap (λ (z : Replica). z.node.waiting) it ∙ e)

  -- what its grant names was seen by it, or is void
  by_grant : takes_none d call ≡ false → RanByGrant net (record { id = id; event = the_event })
  by_grant t = elim may.licence [
    | inl n ↦ absurd (not_both (takes_none d call) n t)
    | inr l ↦ record {
      grant = l.grant;
      granted = l.granted;
      id = l.id;
      call = l.call;
      named = λ x c. elim (l.named x c) [
        | inl taken ↦ (let n = number_among net.happened at.taken at.node.taken (kept.ids r at may.here) x taken in
            let one : IsOneOf net at.taken x = (n.number, n.event, n.among, n.here, n.is) in inl one)
        | inr v ↦ inr (kept.voids r at x may.here v)
      ];
    }
  ]

  -- The k-th event conflicts with it, and was run by a grant, as it was itself: it was taken.
  module _ (k : ℕ) (h : Happened) (here : IsHappened net k h) (conflict : conflicts d w h.event.call call ≡ true) (l : Licence net at.node id call) where
    abbrev other : RanByGrant net h
    other = kept.by_grant k h here (left_takes d w h.event.call call conflict)

    grants_conflict : conflicts d w other.grant.call l.grant.call ≡ true
    grants_conflict = subst (λ x. conflicts d w x l.grant.call ≡ true) (sym other.call) (subst (λ x. conflicts d w h.event.call x ≡ true) (sym l.call) conflict)

    -- its grant is the later one, and names the other: the other isn't void, so it was taken
    if_later : (i j : ℕ) → slice_get net.granted i ≡ Some l.grant → slice_get net.granted j ≡ Some other.grant → j < i → Contains at.taken k
    if_later i j at_i at_j lt =
        let named : Contains l.grant.after other.grant.id = subst (λ ids. Contains ids other.grant.id) (sym (kept.grants i l.grant at_i).named) (names d w net.granted i j other.grant l.grant.call lt at_j grants_conflict) in
        elim (l.named other.grant.id named) [
          | inl taken ↦ (let n = number_among net.happened at.taken at.node.taken (kept.ids r at may.here) other.grant.id taken in
              let place : n.number ≡ k = kept.one_event n.number k n.event h n.here here (n.is ∙ other.id) in
              subst (Contains at.taken) place n.among)
          | inr v ↦ absurd (kept.not_void k h here (subst (IsVoid net) other.id (kept.voids r at other.grant.id may.here v)))
        ]

    -- the other's grant is the later one, and names it: but it was neither taken nor void
    if_earlier : (i j : ℕ) → slice_get net.granted i ≡ Some l.grant → slice_get net.granted j ≡ Some other.grant → i < j → ⊥
    if_earlier i j at_i at_j lt =
        let named : Contains other.grant.after l.grant.id = subst (λ ids. Contains ids l.grant.id) (sym (kept.grants j other.grant at_j).named)
        (names d w net.granted j i l.grant other.grant.call lt at_i (conflicts_symmetric d w other.grant.call l.grant.call grants_conflict)) in
        elim (other.named l.grant.id named) [
          | inl o ↦ may.still.not_run o.0 o.1 o.3 (o.4 ∙ l.id)
          | inr v ↦ may.still.not_void (subst (IsVoid net) l.id v)
        ]

    taken_by_grant : Contains at.taken k
    taken_by_grant =
        let mine = place_of net.granted l.grant l.granted in
        let its = place_of net.granted other.grant other.granted in
        elim (order_of mine.0 its.0) [
          | inl lt ↦ absurd (if_earlier mine.0 its.0 mine.1 its.1 lt)
          | inr rest ↦ elim rest [
            | inl e ↦ (let one = one_found l.grant other.grant (sym mine.1 ∙ ap (slice_get net.granted) e ∙ its.1) in
                absurd (may.still.not_run k h here (sym other.id ∙ ap (λ (g : Granted). g.id) (sym one) ∙ l.id)))
            | inr gt ↦ if_later mine.0 its.0 mine.1 its.1 gt
          ]
        ]

  -- so each earlier event that conflicts with it was taken
  taken_before : (k : ℕ) (h : Happened) → IsHappened net k h → conflicts d w h.event.call call ≡ true → Contains at.taken k
  taken_before k h here conflict = elim may.licence [
    | inl n ↦ absurd (not_both (takes_none d call) n (right_takes d w h.event.call call conflict))
    | inr l ↦ taken_by_grant k h here conflict l
  ]

  happens : IsReady d w at.node.state call → Happens (system_of d w) (events ++ the_event ∷ []) (length events) the_event
  happens is =
      let same : at.node.state ≡ state_after (system_of d w) (events ++ the_event ∷ []) at.taken =
      kept.states r at may.here ∙ sym (state_still (system_of d w) events (the_event ∷ []) at.taken the_order) in
      record {
        call = (both (is_call d w call) (list_all in_state_range call.args) may.fits).0;
        earlier = λ k c. order_within events at.taken the_order k c;
        closed = order_still events (the_event ∷ []) at.taken the_order;
        ready = subst (λ (x : Reads). pre d w call x ≡ true) same is.ready;
        observed = subst (λ (x : Reads). observed d w call x ≡ true) same is.observed;
        ordered = λ k other lt there conflict. elim (front_or_last events the_event k other there) [
          | inl q ↦ (let m = map_get (λ (h : Happened). h.event) net.happened k other q in
              taken_before k m.0 m.1 (subst (λ (e : Event Call). conflicts d w e.call call ≡ true) (sym m.2) conflict))
          | inr p ↦ absurd (let e = p.0 in omega (arith, e, lt))
        ];
      }

  -- ---- it is run
  module _ (ready : IsReady d w at.node.state call) where
    may_happen : MayHappen d w net kept id the_event
    may_happen = record { past = may.past; still = may.still; not_waiting = not_waiting; fits = may.fits; happens = happens ready; by_grant = by_grant }

    abbrev net_then : Network
    net_then = with_event net id the_event

    abbrev the_done : Message
    the_done = message.Done id call at.node.taken

    abbrev one_happened : Happened
    one_happened = record { id = id; event = the_event }

    then_kept : IsKept d w net_then
    then_kept = event_more d w net kept id the_event may_happen

    no_void : (x : EventId) → the_done ≡ message.Void x → ⊥
    no_void x e = cc

    done_kept : IsKept d w (with_message net_then the_done)
    done_kept = message_more d w net_then then_kept the_done
        (length net.happened, one_happened, get_last net.happened one_happened, refl, refl, ids_still net.happened (one_happened ∷ []) at.taken at.node.taken (kept.ids r at may.here))
        (λ x e. absurd (no_void x e))

    abbrev number : ℕ
    number = length net.happened

    abbrev next_replica : Replica
    next_replica = record { node = with_taken d w at.node id call; taken = at.taken ++ number ∷ [] }

    same_number : length events ≡ number
    same_number = length_map (λ (h : Happened). h.event) net.happened

    next_order : IsOrder (events_of net_then) next_replica.taken
    next_order =
        subst (λ (l : List (Event Call)). IsOrder l next_replica.taken) (sym (events_more d w net kept id the_event))
        (subst (λ n. IsOrder (events ++ the_event ∷ []) (at.taken ++ n ∷ [])) same_number
        (order_more (events ++ the_event ∷ []) at.taken (length events) (order_still events (the_event ∷ []) at.taken the_order) (new_may_follow events the_event at.taken the_order refl)))

    event_leads : (x : Reads) → take_event (system_of d w) (events ++ the_event ∷ []) x (length events) ≡ after d w call x
    event_leads x = rw (get_last events the_event, take_event) refl

    next_state : after d w call at.node.state ≡ state_after (system_of d w) (events_of net_then) next_replica.taken
    next_state =
        ap (after d w call) (kept.states r at may.here ∙ sym (state_still (system_of d w) events (the_event ∷ []) at.taken the_order))
        ∙ sym (event_leads (state_after (system_of d w) (events ++ the_event ∷ []) at.taken))
        ∙ sym (state_more (system_of d w) (events ++ the_event ∷ []) at.taken (length events))
        ∙ ap (λ n. state_after (system_of d w) (events ++ the_event ∷ []) (at.taken ++ n ∷ [])) same_number
        ∙ ap (λ (l : List (Event Call)). state_after (system_of d w) l next_replica.taken) (sym (events_more d w net kept id the_event))

    ran_kept : IsKept d w (changed (with_message net_then the_done) r next_replica)
    ran_kept = replica_changes d w (with_message net_then the_done) done_kept r at next_replica (record {
      here = may.here;
      same = refl;
      later = (let le : at.node.turn ≤ at.node.turn = omega arith in le);
      waiting = λ q e. absurd (absent q (sym may.free ∙ e));
      voids = λ x c. done_kept.voids r at x may.here c;
      ids = ids_more net_then.happened at.taken at.node.taken number one_happened id (done_kept.ids r at may.here) (get_last net.happened one_happened) refl;
      order = next_order;
      state = next_state;
    })

  -- ---- it is void
  may_be_void : MayBeVoid d w net kept id
  may_be_void = record { not_run = may.still.not_run; not_waiting = not_waiting }

  one_void : (x : EventId) → message.Void id ≡ message.Void x → id ≡ x
  one_void x e = cc

  said_kept : IsKept d w (with_message net (message.Void id))
  said_kept = message_more d w net kept (message.Void id) may.past (λ x e. subst (MayBeVoid d w net kept) (one_void x e) may_be_void)

  abbrev void_replica : Replica
  void_replica = record { node = with_void at.node id; taken = at.taken }

  void_kept : IsKept d w (changed (with_message net (message.Void id)) r void_replica)
  void_kept = replica_changes d w (with_message net (message.Void id)) said_kept r at void_replica (record {
    here = may.here;
    same = refl;
    later = (let le : at.node.turn ≤ at.node.turn = omega arith in le);
    waiting = λ q e. absurd (absent q (sym may.free ∙ e));
    voids = λ x c. elim (front_or_is at.node.void id x c) [
      | inl old ↦ said_kept.voids r at x may.here old
      | inr e ↦ subst (IsVoid (with_message net (message.Void id))) e (in_last net.messages (message.Void id))
    ];
    ids = said_kept.ids r at may.here;
    order = said_kept.orders r at may.here;
    state = said_kept.states r at may.here;
  })

  run_with_kept : (cause : Option WhyVoid) → why_void d w at.node.state call ≡ cause → IsKept d w (network_after net (run_at net r at (run_with d w at.node id call cause)))
  run_with_kept None e = ran_kept (not_void_is_ready d w at.node.state call e)
  run_with_kept (Some cause) e = void_kept

  pub run_kept : IsKept d w (network_after net (run_at net r at (run d w at.node id call)))
  run_kept = run_with_kept (why_void d w at.node.state call) refl
