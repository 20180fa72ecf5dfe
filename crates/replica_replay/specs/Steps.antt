-- What a step answers, and what a replay holds after it.
use Rattle.std.specs.Prelude.{ℕ, List, [], ◌∷◌, ◌++◌, ℤ, Option, None, Some, Result, Ok, Err, length, map, set, slice_get}
use Rattle.std.specs.List.{position_from}
use Rattle.std.specs.Str.{bytes_eq}
use Rattle.spec_core.specs.declared.world.World.{World}
use Rattle.spec_core.specs.declared.world.Call.{Call}
use Rattle.spec_core.specs.Specification.{Specification}
use Rattle.spec_core.specs.State.{Reads}
use Rattle.executions.specs.Orders.{Event}
use Rattle.executions.specs.Executions.{state_after}
use Rattle.executions.specs.Convergence.{system_of}
use Rattle.replica_replay.specs.declared.step.Step.{Step}
use Rattle.replica_replay.specs.declared.step.Step.TheVariants as step
use Rattle.replica_replay.specs.declared.step.Taken.{Taken}
use Rattle.replica_replay.specs.declared.step.StepRefused.{StepRefused}
use Rattle.replica_replay.specs.declared.step.StepRefused.TheVariants as refusal
use Rattle.replica_replay.specs.Held.{Held}
use Rattle.replica_replay.specs.Refusals.{LocalView, call_refused, taking_refused}

-- the operation of this name, by its place
abbrev pub operation_named : Specification → List ℕ → Option ℕ
operation_named d name = position_from (λ o. bytes_eq o.name name) 0 d.operations

-- the state of a replica that has taken these events: the state after them, folded anew
abbrev pub state_of : Specification → World → Held → List ℕ → Reads
state_of d w held taken = state_after (system_of d w) held.events taken

-- A replica of what is held: its number, and the events that it has taken.
pub record AtReplica : Type 0 where
  pub held : Held
  pub replica : ℕ
  pub taken : List ℕ

-- a replica of what is held, where what it has taken was found
abbrev pub replica_with : Held → ℕ → Option (List ℕ) → Option AtReplica
replica_with held replica None = None
replica_with held replica (Some taken) =
    Some (record { held = held; replica = replica; taken = taken })

-- the replica of this number, if there is one
abbrev pub replica_in : Held → ℕ → Option AtReplica
replica_in held replica = replica_with held replica (slice_get held.taken replica)

-- what a replica knows: the events that it has taken, and the state after them
abbrev pub local_view : Specification → World → AtReplica → LocalView
local_view d w at = record { taken = at.taken; state = state_of d w at.held at.taken }

-- What a step gives: an event that the replica takes and what is held then, or why the step is refused.
pub data Outcome : Type 0 where
  accepted : ℕ → Held → Outcome
  refused : StepRefused → Outcome

-- a step is accepted, unless there is a cause against it
abbrev pub decided : Option StepRefused → ℕ → Held → Outcome
decided None e held = accepted e held
decided (Some why) e held = refused why

-- what each replica has taken, with one event more at this one
abbrev pub with_taken : AtReplica → ℕ → List (List ℕ)
with_taken at e = set at.held.taken at.replica (at.taken ++ e ∷ [])

-- An accepted call makes the next event, which has seen what its replica had taken, and the replica takes it.
abbrev pub call_outcome : Specification → World → AtReplica → Call → Outcome
call_outcome d w at call =
    decided (call_refused d w (map (λ event. event.call) at.held.events) (local_view d w at) call)
    (length at.held.events)
    (record {
      events = at.held.events ++ record { call = call; seen = at.taken } ∷ [];
      taken = with_taken at (length at.held.events);
    })

-- An accepted taking puts the event behind what the replica has taken.
abbrev pub taking_outcome : Specification → World → AtReplica → ℕ → Event Call → Outcome
taking_outcome d w at e event =
    decided (taking_refused d w (local_view d w at) e event) e
    (record { events = at.held.events; taken = with_taken at e })

-- what a call gives at a replica, where its operation is there
abbrev pub named_outcome : Specification → World → AtReplica → List ℤ → Option ℕ → Outcome
named_outcome d w at args None = refused refusal.Operation
named_outcome d w at args (Some op) = call_outcome d w at (record { op = op; args = args })

-- what a taking gives at a replica, where its event is there
abbrev pub found_outcome : Specification → World → AtReplica → ℕ → Option (Event Call) → Outcome
found_outcome d w at e None = refused refusal.NoEvent
found_outcome d w at e (Some event) = taking_outcome d w at e event

-- what a call gives, where the replica is there
abbrev pub called : Specification → World → List ℕ → List ℤ → Option AtReplica → Outcome
called d w name args None = refused refusal.Replica
called d w name args (Some at) = named_outcome d w at args (operation_named d name)

-- what a taking gives, where the replica is there
abbrev pub took : Specification → World → ℕ → Option AtReplica → Outcome
took d w e None = refused refusal.Replica
took d w e (Some at) = found_outcome d w at e (slice_get at.held.events e)

-- The outcome of a step.
abbrev pub outcome : Specification → World → Held → Step → Outcome
outcome d w held (step.Call replica name args) = called d w name args (replica_in held replica)
outcome d w held (step.Take replica e) = took d w e (replica_in held replica)

-- what is held after a step: a refusal changes nothing
abbrev pub held_after : Held → Outcome → Held
held_after held (accepted e after) = after
held_after held (refused why) = held

-- what a step answers
abbrev pub answer : Outcome → Result Taken StepRefused
answer (accepted e after) = Ok (record { event = e })
answer (refused why) = Err why
