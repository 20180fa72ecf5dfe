-- What a replay holds, and which of it are executions.
use Rattle.std.specs.Prelude.{◌≡◌, ℕ, Bool, true, eqb, List, [], replicate, slice_get, Some}
use Rattle.std.specs.List.{list_all, list_any}
use Rattle.spec_core.specs.declared.world.World.{World}
use Rattle.spec_core.specs.declared.world.Call.{Call}
use Rattle.spec_core.specs.Specification.{Specification}
use Rattle.spec_core.specs.Fits.{call_fits}
use Rattle.executions.specs.Orders.{Event, IsOrder}
use Rattle.executions.specs.Executions.{IsExecution}
use Rattle.executions.specs.Convergence.{system_of}

-- What a replay holds: the events so far, and for each replica those that it has taken, in the order in which it took them.
pub record Held : Type 0 where
  pub events : List (Event Call)
  pub taken : List (List ℕ)

-- what is held before the first step, of this number of replicas
abbrev pub none_held : ℕ → Held
none_held replicas = record { events = []; taken = replicate replicas [] }

-- whether an event is among those taken
abbrev pub is_taken : List ℕ → ℕ → Bool
is_taken taken e = list_any (eqb e) taken

-- The events form an execution, of calls that fit, and what each replica has taken is a delivery order of it.
pub record IsHeld (d : Specification) (w : World) (held : Held) : Type 0 where
  pub calls : list_all (λ event. call_fits d w event.call) held.events ≡ true
  pub run : IsExecution (system_of d w) held.events
  pub orders : (replica : ℕ) (taken : List ℕ) → slice_get held.taken replica ≡ Some taken
      → IsOrder held.events taken
