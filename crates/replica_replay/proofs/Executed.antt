-- A step keeps an execution and delivery orders of it.
use Rattle.std.specs.Prelude.{slice_get, Option, None, Some, map}
use Rattle.std.specs.List.{list_all}
use Rattle.std.proofs.Common.{◌≡◌, ℕ, ◌+◌, Bool, true, inl, inr, List, [], ◌∷◌, ◌++◌, ℤ, length, refl, sym, ◌∙◌, ap, subst, arith}
use Rattle.spec_core.specs.declared.world.World.{World}
use Rattle.spec_core.specs.declared.world.Call.{Call}
use Rattle.spec_core.specs.Specification.{Specification}
use Rattle.spec_core.specs.State.{Reads}
use Rattle.spec_core.specs.Meaning.{pre, observed}
use Rattle.spec_core.specs.Fits.{is_call, call_fits, in_state_range}
use Rattle.spec_core.proofs.Lists.{both, and_true}
use Rattle.executions.specs.Orders.{Event, MayFollow, IsOrder}
use Rattle.executions.specs.Executions.{state_after, Happens}
use Rattle.executions.specs.Convergence.{system_of}
use Rattle.executions.proofs.Growth.{front_or_last, order_more, order_still, order_within, new_may_follow, state_still, execution_more}
use Rattle.replica_replay.specs.declared.step.Step.{Step}
use Rattle.replica_replay.specs.declared.step.Step.TheVariants.{Call as Calls, Take}
use Rattle.replica_replay.specs.declared.step.StepRefused.{StepRefused}
use Rattle.replica_replay.specs.Held.{Held, IsHeld, is_taken}
use Rattle.replica_replay.specs.Refusals.{call_refused, taking_refused}
use Rattle.replica_replay.specs.Steps.{operation_named, AtReplica, replica_with, local_view, decided, with_taken, named_outcome, found_outcome, called, took, outcome, held_after}
use Rattle.replica_replay.proofs.Taking.{taken_contains, get_set, get_map}
use Rattle.replica_replay.proofs.Refusing.{view_with, IsAccepted, call_accepted, conflicting_taken, taking_accepted}

calls_more : (p : Call → Bool) (events : List (Event Call)) (event : Event Call) → list_all (λ (e : Event Call). p e.call) events ≡ true → p event.call ≡ true → list_all (λ (e : Event Call). p e.call) (events ++ event ∷ []) ≡ true
calls_more p [] event h q = and_true (p event.call) true q refl
calls_more p (e ∷ es) event h q = let a = both (p e.call) (list_all (λ (e : Event Call). p e.call) es) h in and_true (p e.call) _ a.0 (calls_more p es event a.1 q)

module _ (d : Specification) (w : World) where
  -- the new event happens
  new_happens : (events : List (Event Call)) (taken : List ℕ) (call : Call) → IsOrder events taken
      → IsAccepted d w (map (λ (e : Event Call). e.call) events) (view_with taken (state_after (system_of d w) events taken)) call
      → let event : Event Call = record { call = call; seen = taken } in Happens (system_of d w) (events ++ event ∷ []) (length events) event
  new_happens events taken call order is =
      let event : Event Call = record { call = call; seen = taken } in
      let same = state_still (system_of d w) events (event ∷ []) taken order in
      record {
        call = (both (is_call d w call) (list_all in_state_range call.args) is.fits).0;
        earlier = λ k c. order_within events taken order k c;
        closed = order_still events (event ∷ []) taken order;
        ready = subst (λ (r : Reads). pre d w call r ≡ true) (sym same) is.ready;
        observed = subst (λ (r : Reads). observed d w call r ≡ true) (sym same) is.observed;
        ordered = λ k other lt here conflict. elim (front_or_last events event k other here) [
          | inl q ↦ taken_contains taken k (ap (is_taken taken) (let e : k ≡ 0 + k = omega arith in e) ∙ conflicting_taken d w taken call 0 (map (λ (e : Event Call). e.call) events) is.ordered k other.call (get_map (λ (e : Event Call). e.call) events k other q) conflict)
          | inr p ↦ absurd (let same_place = p.0 in omega (arith, same_place, lt))
        ];
      }

  -- a call's event and its taking
  pub call_kept : (at : AtReplica) (call : Call) → IsHeld d w at.held → slice_get at.held.taken at.replica ≡ Some at.taken
      → call_refused d w (map (λ (e : Event Call). e.call) at.held.events) (local_view d w at) call ≡ None
      → IsHeld d w (record { events = at.held.events ++ record { call = call; seen = at.taken } ∷ []; taken = with_taken at (length at.held.events) })
  call_kept at call is here accepted =
      let held = at.held in let replica = at.replica in let taken = at.taken in
      let event : Event Call = record { call = call; seen = taken } in
      let order = is.orders replica taken here in
      let ok = call_accepted d w (map (λ (e : Event Call). e.call) held.events) (local_view d w at) call accepted in
      record {
        calls = calls_more (call_fits d w) held.events event is.calls ok.fits;
        run = execution_more (system_of d w) held.events event is.run (new_happens held.events taken call order ok);
        orders = λ other those there. elim (get_set held.taken replica other (taken ++ length held.events ∷ []) those there) [
          | inl p ↦ subst (IsOrder (held.events ++ event ∷ [])) p.1 (order_more (held.events ++ event ∷ []) taken (length held.events) (order_still held.events (event ∷ []) taken order) (new_may_follow held.events event taken order refl))
          | inr q ↦ order_still held.events (event ∷ []) those (is.orders other those q)
        ];
      }

  pub taking_kept : (at : AtReplica) (e : ℕ) (event : Event Call) → IsHeld d w at.held → slice_get at.held.taken at.replica ≡ Some at.taken → slice_get at.held.events e ≡ Some event
      → taking_refused d w (local_view d w at) e event ≡ None
      → IsHeld d w (record { events = at.held.events; taken = with_taken at e })
  taking_kept at e event is here exists accepted =
      let held = at.held in let replica = at.replica in let taken = at.taken in
      let ok = taking_accepted d w (local_view d w at) e event accepted in
      let may : MayFollow held.events taken e = record { event = event; exists = exists; new = ok.new; after = ok.after } in
      record {
        calls = is.calls;
        run = is.run;
        orders = λ other those there. elim (get_set held.taken replica other (taken ++ e ∷ []) those there) [
          | inl p ↦ subst (IsOrder held.events) p.1 (order_more held.events taken e (is.orders replica taken here) may)
          | inr q ↦ is.orders other those q
        ];
      }

  decided_kept : (why : Option StepRefused) (e : ℕ) (held after : Held) → IsHeld d w held → (why ≡ None → IsHeld d w after) → IsHeld d w (held_after held (decided why e after))
  decided_kept None e held after is kept = kept refl
  decided_kept (Some why) e held after is kept = is

  call_keeps : (held : Held) (replica : ℕ) (name : List ℕ) (args : List ℤ) (o : Option (List ℕ)) → slice_get held.taken replica ≡ o → IsHeld d w held → IsHeld d w (held_after held (called d w name args (replica_with held replica o)))
  call_keeps held replica name args None here is = is
  call_keeps held replica name args (Some taken) here is = named (operation_named d name)
    where
      named : (op : Option ℕ) → IsHeld d w (held_after held (named_outcome d w (record { held = held; replica = replica; taken = taken }) args op))
      named None = is
      named (Some op) = decided_kept _ (length held.events) held _ is (call_kept (record { held = held; replica = replica; taken = taken }) (record { op = op; args = args }) is here)

  taking_keeps : (held : Held) (replica e : ℕ) (o : Option (List ℕ)) → slice_get held.taken replica ≡ o → IsHeld d w held → IsHeld d w (held_after held (took d w e (replica_with held replica o)))
  taking_keeps held replica e None here is = is
  taking_keeps held replica e (Some taken) here is = event (slice_get held.events e) refl
    where
      event : (o : Option (Event Call)) → slice_get held.events e ≡ o → IsHeld d w (held_after held (found_outcome d w (record { held = held; replica = replica; taken = taken }) e o))
      event None exists = is
      event (Some it) exists = decided_kept _ e held _ is (taking_kept (record { held = held; replica = replica; taken = taken }) e it is here exists)

  -- whatever the step
  pub step_keeps : (held : Held) (step : Step) → IsHeld d w held → IsHeld d w (held_after held (outcome d w held step))
  step_keeps held (Calls replica name args) is = call_keeps held replica name args (slice_get held.taken replica) refl is
  step_keeps held (Take replica e) is = taking_keeps held replica e (slice_get held.taken replica) refl is
