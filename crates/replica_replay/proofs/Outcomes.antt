-- The outcome of a step, from what the code has found.
use Rattle.std.specs.Prelude.{slice_get, Option, None, Some, map}
use Rattle.std.proofs.Common.{◌≡◌, ℕ, zero, suc, List, [], ◌∷◌, ◌++◌, ℤ, length, refl, sym, ◌∙◌, ap}
use Rattle.spec_core.specs.declared.world.World.{World}
use Rattle.spec_core.specs.declared.world.Call.{Call}
use Rattle.spec_core.specs.Specification.{Specification}
use Rattle.spec_core.specs.State.{Reads}
use Rattle.executions.specs.Orders.{Event}
use Rattle.replica_replay.specs.declared.step.StepRefused.{StepRefused}
use Rattle.replica_replay.specs.declared.step.StepRefused.TheVariants as refusal
use Rattle.replica_replay.specs.declared.keeping.Happened.{Happened}
use Rattle.replica_replay.specs.declared.keeping.Replica.{Replica}
use Rattle.replica_replay.specs.Held.{Held}
use Rattle.replica_replay.specs.Refusals.{call_refused, taking_refused}
use Rattle.replica_replay.specs.Steps.{operation_named, AtReplica, replica_with, replica_in, local_view, refused, decided, with_taken, named_outcome, found_outcome, called, took}
use Rattle.replica_replay.specs.Holding.{event_of, orders_of, calls_of, held_by, IsKept}
use Rattle.replica_replay.proofs.Taking.{get_map}
use Rattle.replica_replay.proofs.Refusing.{view_with, view_of}
use Rattle.replica_replay.proofs.Fronts.{calls_map}

no_map : {X Y : Type 0} (f : X → Y) (xs : List X) (i : ℕ) → slice_get xs i ≡ None → slice_get (map f xs) i ≡ None
no_map f [] i h = refl
no_map f (x ∷ xs) zero h = absurd (let e : Some x ≡ None = h in nothing x e)
  where
    nothing : {X : Type 0} (x : X) → Some x ≡ None → ⊥
    nothing x h = cc
no_map f (x ∷ xs) (suc i) h = no_map f xs i h

module _ (d : Specification) (w : World) (happened : List Happened) (replicas : List Replica) where
  abbrev now : Held
  now = held_by happened replicas

  -- the replica of this number, which has taken these
  abbrev pub at_number : ℕ → List ℕ → AtReplica
  at_number r taken = record { held = now; replica = r; taken = taken }

  is_there : (r : ℕ) (at : Replica) → slice_get replicas r ≡ Some at → replica_in now r ≡ Some (at_number r at.order)
  is_there r at h = ap (replica_with now r) (get_map (λ (x : Replica). x.order) replicas r at h)

  not_there : (r : ℕ) → slice_get replicas r ≡ None → replica_in now r ≡ None
  not_there r h = ap (replica_with now r) (no_map (λ (x : Replica). x.order) replicas r h)

  pub no_replica_to_call : (r : ℕ) (name : List ℕ) (args : List ℤ) → slice_get replicas r ≡ None → called d w name args (replica_in now r) ≡ refused refusal.Replica
  no_replica_to_call r name args h = ap (called d w name args) (not_there r h)

  pub no_operation : (r : ℕ) (name : List ℕ) (args : List ℤ) (at : Replica) → slice_get replicas r ≡ Some at → operation_named d name ≡ None → called d w name args (replica_in now r) ≡ refused refusal.Operation
  no_operation r name args at h q = ap (called d w name args) (is_there r at h) ∙ ap (named_outcome d w (at_number r at.order) args) q

  -- the refusal of a call, by what is kept
  call_why : (r : ℕ) (at : Replica) (call : Call) → IsKept d w happened replicas → slice_get replicas r ≡ Some at
      → call_refused d w (map (λ (e : Event Call). e.call) now.events) (local_view d w (at_number r at.order)) call ≡ call_refused d w (calls_of happened) (view_of at) call
  call_why r at call is h =
      ap (λ (cs : List Call). call_refused d w cs (local_view d w (at_number r at.order)) call) (calls_map (orders_of replicas) happened)
      ∙ ap (λ (s : Reads). call_refused d w (calls_of happened) (view_with at.order s) call) (sym (is.states r at h))

  pub call_decided : (r : ℕ) (name : List ℕ) (args : List ℤ) (op : ℕ) (at : Replica) (why : Option StepRefused) → IsKept d w happened replicas → slice_get replicas r ≡ Some at → operation_named d name ≡ Some op
      → (let call : Call = record { op = op; args = args } in call_refused d w (calls_of happened) (view_of at) call) ≡ why
      → called d w name args (replica_in now r)
      ≡ decided why (length now.events) (record { events = now.events ++ record { call = record { op = op; args = args }; seen = at.order } ∷ []; taken = with_taken (at_number r at.order) (length now.events) })
  call_decided r name args op at why is h q k =
      let call : Call = record { op = op; args = args } in
      ap (called d w name args) (is_there r at h) ∙ ap (named_outcome d w (at_number r at.order) args) q
      ∙ ap (λ (o : Option StepRefused). decided o (length now.events) (record { events = now.events ++ record { call = call; seen = at.order } ∷ []; taken = with_taken (at_number r at.order) (length now.events) })) (call_why r at call is h ∙ k)

  pub no_replica_to_take : (r e : ℕ) → slice_get replicas r ≡ None → took d w e (replica_in now r) ≡ refused refusal.Replica
  no_replica_to_take r e h = ap (took d w e) (not_there r h)

  pub no_event : (r e : ℕ) (at : Replica) → slice_get replicas r ≡ Some at → slice_get happened e ≡ None → took d w e (replica_in now r) ≡ refused refusal.NoEvent
  no_event r e at h q = ap (took d w e) (is_there r at h) ∙ ap (found_outcome d w (at_number r at.order) e) (no_map (event_of (orders_of replicas)) happened e q)

  pub taking_decided : (r e : ℕ) (at : Replica) (it : Happened) (why : Option StepRefused) → IsKept d w happened replicas → slice_get replicas r ≡ Some at → slice_get happened e ≡ Some it
      → taking_refused d w (view_of at) e (event_of (orders_of replicas) it) ≡ why
      → took d w e (replica_in now r) ≡ decided why e (record { events = now.events; taken = with_taken (at_number r at.order) e })
  taking_decided r e at it why is h q k =
      ap (took d w e) (is_there r at h) ∙ ap (found_outcome d w (at_number r at.order) e) (get_map (event_of (orders_of replicas)) happened e it q)
      ∙ ap (λ (o : Option StepRefused). decided o e (record { events = now.events; taken = with_taken (at_number r at.order) e }))
      (ap (λ (s : Reads). taking_refused d w (view_with at.order s) e (event_of (orders_of replicas) it)) (sym (is.states r at h)) ∙ k)
