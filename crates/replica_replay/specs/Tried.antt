-- A call that is tried in a state, and one that is run at a node; this mirrors src/trying.rt.
use Rattle.std.specs.Prelude.{◌≡◌, true, None, Some}
use Rattle.spec_core.specs.declared.world.World.{World}
use Rattle.spec_core.specs.declared.world.Call.{Call}
use Rattle.spec_core.specs.Specification.{Specification}
use Rattle.spec_core.specs.State.{Reads, reads}
use Rattle.spec_core.specs.Fits.{is_state}
use Rattle.effectors.specs.Effect.{after}
use Rattle.token_protocol.specs.Node.{why_void}
use Rattle.replica_replay.specs.declared.trying.Tried.{Tried}
use Rattle.replica_replay.specs.declared.trying.Tried.TheVariants.{Ready, Never}

-- the state after the call, or why it can't run
abbrev pub IsTried : Specification → World → Reads → Call → Tried → Type 0
IsTried d w r call (Ready next) =
    (why_void d w r call ≡ None) × (is_state d w next ≡ true) × (reads next ≡ after d w call r)
IsTried d w r call (Never cause) = why_void d w r call ≡ Some cause
