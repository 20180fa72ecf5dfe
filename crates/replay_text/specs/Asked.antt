-- Of which states the invariants were asked. This serves the speed of the code, and its proofs.
use Rattle.std.specs.Prelude.{◌≡◌, ◌≢◌, ℕ, ◌∷◌, ◌++◌, List, [], take, map, get_or, set, slice_get, Some, None}
use Rattle.spec_core.specs.declared.world.World.{World}
use Rattle.spec_core.specs.declared.world.Call.{Call}
use Rattle.spec_core.specs.Specification.{Specification}
use Rattle.spec_core.specs.State.{Reads}
use Rattle.spec_core.specs.Meaning.{broken_at}
use Rattle.effectors.specs.Effect.{after as effect_of}
use Rattle.executions.specs.Orders.{Event}
use Rattle.replica_replay.specs.Held.{Held}
use Rattle.replica_replay.specs.Steps.{state_of}
use Rattle.replay_text.specs.Course.{state_at}

-- the invariants hold in the state after the first k events that a replica has taken
abbrev pub HoldsAt : Specification → World → Held → ℕ → ℕ → Type 0
HoldsAt d w held replica k =
    broken_at d w (state_of d w held (take k (get_or held.taken replica []))) ≡ None

-- they hold in each state that a replica has had
abbrev pub AllHeld : Specification → World → Held → Type 0
AllHeld d w held = (replica k : ℕ) → HoldsAt d w held replica k

-- they hold in each state that another replica has had
abbrev pub OthersHeld : Specification → World → Held → ℕ → Type 0
OthersHeld d w held replica = (other k : ℕ) → other ≢ replica → HoldsAt d w held other k

-- What a replica has taken is what another one has taken first.
pub record IsFrontElsewhere (held : Held) (replica : ℕ) : Type 0 where
  pub other : ℕ
  pub count : ℕ
  pub differs : other ≢ replica
  pub front : get_or held.taken replica [] ≡ take count (get_or held.taken other [])

-- An event has led a replica to its state, by its call, from a state in which the invariants hold.
pub record LedBy (d : Specification) (w : World) (held : Held) (replica e : ℕ) : Type 0 where
  pub before : Reads
  pub call : Call
  pub is_call : slice_get (map (λ (v : Event Call). v.call) held.events) e ≡ Some call
  pub leads : state_at d w held replica ≡ effect_of d w call before
  pub held_before : broken_at d w before ≡ None

-- An accepted step: a replica takes one event more, and there may be more events.
pub record Grows (held : Held) (replica e : ℕ) (after : Held) : Type 0 where
  pub taken : List ℕ
  pub it : Event Call
  pub more : List (Event Call)
  pub here : slice_get held.taken replica ≡ Some taken
  pub taken_is : after.taken ≡ set held.taken replica (taken ++ e ∷ [])
  pub events_is : after.events ≡ held.events ++ more
  pub stands : slice_get after.events e ≡ Some it
