-- What a node answers tells what came of a call or of a message.
use Rattle.std.specs.Prelude.{Bool, true, false, cond, List, Option, None, Some}
use Rattle.std.proofs.Common.{◌≡◌, ℕ, refl}
use Rattle.spec_core.specs.declared.world.World.{World}
use Rattle.spec_core.specs.declared.world.Call.{Call}
use Rattle.spec_core.specs.Specification.{Specification}
use Rattle.spec_core.specs.Fits.{call_fits}
use Rattle.effectors.specs.Effect.{after_call}
use Rattle.effectors.specs.Beyond.{Beyond, first_beyond}
use Rattle.token_protocol.specs.declared.message.EventId.{EventId}
use Rattle.token_protocol.specs.declared.message.Request.{Request}
use Rattle.token_protocol.specs.declared.message.Message.{Message}
use Rattle.token_protocol.specs.declared.message.Message.TheVariants as message
use Rattle.token_protocol.specs.declared.node.WhyVoid.{WhyVoid}
use Rattle.token_protocol.specs.declared.node.NodeRefused.TheVariants as refusal
use Rattle.token_protocol.specs.Ids.{same_id, is_among, first_outside}
use Rattle.token_protocol.specs.Node.{Node, Run, ran, run, run_with, why_void, refused, waits, runs, begin, begin_with, takes_none, next_id, with_turn, with_waiting, grants, takes, notes, old, hear, hear_grant, grant_open, first_open, without_waiting, take_after, take_within, with_void}
use Rattle.token_core.specs.Left.{id_of, event_of, event_for}
use Rattle.std.specs.Option.{option_map}

module _ (d : Specification) (w : World) where
  -- a call that was run is the one that was to be run
  module _ (n : Node) (id : EventId) (call : Call) (i : EventId) (c : Call) (s : List EventId) (m : Node) where
    ran_with_call : (o : Option WhyVoid) → run_with d w n id call o ≡ ran i c s m → call ≡ c
    ran_with_call None h = cc
    ran_with_call (Some cause) h = absurd cc

    pub run_call : run d w n id call ≡ ran i c s m → call ≡ c
    run_call h = ran_with_call (why_void d w n.state call) h

  runs_run : (x y : Run) → runs x ≡ runs y → x ≡ y
  runs_run x y h = cc

  grants_run : (x y : Run) → grants x ≡ grants y → x ≡ y
  grants_run x y h = cc

  module _ (n : Node) (call : Call) (i : EventId) (c : Call) (s : List EventId) (m : Node) where
    turn_call : (id : EventId) (none : Bool) → cond none (runs (run d w (with_turn n) id call)) (let request : Request = record { id = id; call = call } in waits request (with_waiting (with_turn n) request)) ≡ runs (ran i c s m) → call ≡ c
    turn_call id true h = run_call (with_turn n) id call i c s m (runs_run (run d w (with_turn n) id call) (ran i c s m) h)
    turn_call id false h = absurd cc

    begin_with_call : (o : Option Request) → begin_with d w n call o ≡ runs (ran i c s m) → call ≡ c
    begin_with_call (Some q) h = absurd cc
    begin_with_call None h = turn_call (next_id n) (takes_none d call) h

    fits_call : (fits : Bool) → cond fits (begin_with d w n call n.waiting) (refused refusal.Arguments) ≡ runs (ran i c s m) → call ≡ c
    fits_call true h = begin_with_call n.waiting h
    fits_call false h = absurd cc

    pub begin_call : begin d w n call ≡ runs (ran i c s m) → call ≡ c
    begin_call h = fits_call (call_fits d w call) h

  -- the waiting call is the one that a grant lets run
  pub record RanWaiting (n : Node) (c : Call) : Type 0 where
    pub request : Request
    pub waiting : n.waiting ≡ Some request
    pub call : request.call ≡ c

  module _ (n : Node) (i : EventId) (c : Call) (s : List EventId) (m : Node) where
    open_ran : (q : Request) (o : Option EventId) → n.waiting ≡ Some q → grant_open d w n q o ≡ grants (ran i c s m) → RanWaiting n c
    open_ran q (Some x) e h = absurd cc
    open_ran q None e h = record {
      request = q;
      waiting = e;
      call = run_call (without_waiting n) q.id q.call i c s m (grants_run (run d w (without_waiting n) q.id q.call) (ran i c s m) h);
    }

    same_ran : (q : Request) (named : List EventId) (b : Bool) → n.waiting ≡ Some q → cond b (grant_open d w n q (first_open n named)) old ≡ grants (ran i c s m) → RanWaiting n c
    same_ran q named true e h = open_ran q (first_open n named) e h
    same_ran q named false e h = absurd cc

    grant_ran : (id : EventId) (named : List EventId) (o : Option Request) → n.waiting ≡ o → hear_grant d w n id named o ≡ grants (ran i c s m) → RanWaiting n c
    grant_ran id named None e h = absurd cc
    grant_ran id named (Some q) e h = same_ran q named (same_id q.id id) e h

    within_ran : (id : EventId) (call : Call) (b : Option Beyond) → take_within d w n id call b ≡ grants (ran i c s m) → ⊥
    within_ran id call None h = cc
    within_ran id call (Some b) h = cc

    after_ran_not : (id : EventId) (call : Call) (o : Option EventId) → take_after d w n id call o ≡ grants (ran i c s m) → ⊥
    after_ran_not id call (Some x) h = cc
    after_ran_not id call None h = within_ran id call (first_beyond 0 (after_call d w call n.state).counters) h

    done_ran : (id : EventId) (call : Call) (seen : List EventId) (b : Bool) → cond b old (take_after d w n id call (first_outside n.taken seen)) ≡ grants (ran i c s m) → ⊥
    done_ran id call seen true h = cc
    done_ran id call seen false h = after_ran_not id call (first_outside n.taken seen) h

    void_ran : (id : EventId) (b : Bool) → cond b old (notes (with_void n id)) ≡ grants (ran i c s m) → ⊥
    void_ran id true h = cc
    void_ran id false h = cc

    pub hear_ran : (x : Message) → hear d w n x ≡ grants (ran i c s m) → RanWaiting n c
    hear_ran (message.Grant id named) h = grant_ran id named n.waiting refl h
    hear_ran (message.Done id call seen) h = absurd (done_ran id call seen (is_among n.taken id) h)
    hear_ran (message.Void id) h = absurd (void_ran id (is_among n.void id) h)

    -- it was a Grant that let the waiting call run
    pub grant_event : (taken : List ℕ) (x : Message) → hear d w n x ≡ grants (ran i c s m) → event_for taken n.waiting x ≡ option_map (λ (q : Request). event_of q.call taken) n.waiting
    grant_event taken (message.Grant id named) h = refl
    grant_event taken (message.Done id call seen) h = absurd (done_ran id call seen (is_among n.taken id) h)
    grant_event taken (message.Void id) h = absurd (void_ran id (is_among n.void id) h)

  -- the event that is taken is the one of which the Done tells
  module _ (n : Node) (i : EventId) (m : Node) where
    run_takes : (x : Run) → grants x ≡ takes i m → ⊥
    run_takes x h = cc

    open_takes : (q : Request) (o : Option EventId) → grant_open d w n q o ≡ takes i m → ⊥
    open_takes q (Some x) h = cc
    open_takes q None h = run_takes (run d w (without_waiting n) q.id q.call) h

    same_takes : (q : Request) (named : List EventId) (b : Bool) → cond b (grant_open d w n q (first_open n named)) old ≡ takes i m → ⊥
    same_takes q named true h = open_takes q (first_open n named) h
    same_takes q named false h = cc

    grant_takes : (id : EventId) (named : List EventId) (o : Option Request) → hear_grant d w n id named o ≡ takes i m → ⊥
    grant_takes id named None h = cc
    grant_takes id named (Some q) h = same_takes q named (same_id q.id id) h

    within_takes : (id : EventId) (call : Call) (b : Option Beyond) → take_within d w n id call b ≡ takes i m → i ≡ id
    within_takes id call None h = cc
    within_takes id call (Some b) h = absurd cc

    after_takes : (id : EventId) (call : Call) (o : Option EventId) → take_after d w n id call o ≡ takes i m → i ≡ id
    after_takes id call (Some x) h = absurd cc
    after_takes id call None h = within_takes id call (first_beyond 0 (after_call d w call n.state).counters) h

    done_takes : (id : EventId) (call : Call) (seen : List EventId) (b : Bool) → cond b old (take_after d w n id call (first_outside n.taken seen)) ≡ takes i m → i ≡ id
    done_takes id call seen true h = absurd cc
    done_takes id call seen false h = after_takes id call (first_outside n.taken seen) h

    void_takes : (id : EventId) (b : Bool) → cond b old (notes (with_void n id)) ≡ takes i m → ⊥
    void_takes id true h = cc
    void_takes id false h = cc

    pub hear_takes : (x : Message) → hear d w n x ≡ takes i m → i ≡ id_of x
    hear_takes (message.Grant id named) h = absurd (grant_takes id named n.waiting h)
    hear_takes (message.Done id call seen) h = done_takes id call seen (is_among n.taken id) h
    hear_takes (message.Void id) h = absurd (void_takes id (is_among n.void id) h)
