-- How a replay is kept: what an event has seen is a front of what its replica had taken. This serves the code and its proofs.
use Rattle.std.specs.Prelude.{◌≡◌, ℕ, ◌<◌, ◌≤◌, ◌^◌, true, List, [], take, get_or, length, map, slice_get, Option, None, Some}
use Rattle.spec_core.specs.declared.world.World.{World}
use Rattle.spec_core.specs.declared.world.Call.{Call}
use Rattle.spec_core.specs.Specification.{Specification}
use Rattle.spec_core.specs.State.{Listing, reads}
use Rattle.spec_core.specs.Fits.{world_fits, is_state}
use Rattle.effectors.specs.Effect.{after}
use Rattle.effectors.specs.Spare.{IsSpare}
use Rattle.executions.specs.Orders.{Event}
use Rattle.replica_replay.specs.declared.keeping.Happened.{Happened}
use Rattle.replica_replay.specs.declared.keeping.Replica.{Replica}
use Rattle.replica_replay.specs.Held.{Held, IsHeld}
use Rattle.replica_replay.specs.Steps.{state_of}

-- what an event has seen, where the replicas have taken these
abbrev pub seen_by_event : List (List ℕ) → Happened → List ℕ
seen_by_event orders h = take h.before (get_or orders h.replica [])

-- the event that is kept so
abbrev pub event_of : List (List ℕ) → Happened → Event Call
event_of orders h = record { call = h.call; seen = seen_by_event orders h }

-- what each replica has taken, in its order
abbrev pub orders_of : List Replica → List (List ℕ)
orders_of replicas = map (λ r. r.order) replicas

-- the calls of the events, in their order
abbrev pub calls_of : List Happened → List Call
calls_of happened = map (λ h. h.call) happened

-- what is held so
abbrev pub held_by : List Happened → List Replica → Held
held_by happened replicas = record {
  events = map (event_of (orders_of replicas)) happened;
  taken = orders_of replicas;
}

-- Each event's front is one, and each replica's state is the state after what it has taken.
pub record IsKept (d : Specification) (w : World) (happened : List Happened)
    (replicas : List Replica) : Type 0 where
  pub world : world_fits d w ≡ true
  pub few : length happened < 2 ^ 32
  pub held : IsHeld d w (held_by happened replicas)
  pub fronts : (k : ℕ) (h : Happened) → slice_get happened k ≡ Some h
      → h.before ≤ length (get_or (orders_of replicas) h.replica [])
  pub fit : (k : ℕ) (r : Replica) → slice_get replicas k ≡ Some r → is_state d w r.state ≡ true
  pub states : (k : ℕ) (r : Replica) → slice_get replicas k ≡ Some r
      → reads r.state ≡ state_of d w (held_by happened replicas) r.order

-- A replica's second state, where there is one, reads as its state.
abbrev pub AreSpares : Specification → World → List Replica → List (Option Listing) → Type 0
AreSpares d w replicas spares =
    (k : ℕ) (r : Replica) → slice_get replicas k ≡ Some r
    → IsSpare d w r.state (get_or spares k None)

-- A call leads from one state to another.
pub record Leads (d : Specification) (w : World) (call : Call) (s next : Listing) : Type 0 where
  pub fits : is_state d w s ≡ true
  pub reads_so : reads next ≡ after d w call (reads s)

-- What the fields of a replay keep.
pub record IsReplay (d : Specification) (w : World) (happened : List Happened)
    (replicas : List Replica) (others : List (Option Listing)) : Type 0 where
  pub kept : IsKept d w happened replicas
  pub spares : AreSpares d w replicas others
