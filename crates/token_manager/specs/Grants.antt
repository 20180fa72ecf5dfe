-- Grants that name what they are to name; this serves the speed of src/manager.rt.
use Rattle.std.specs.Prelude.{◌≡◌, ℕ, true, List, Some, slice_get, take}
use Rattle.spec_core.specs.declared.world.World.{World}
use Rattle.spec_core.specs.declared.world.Call.{Call}
use Rattle.spec_core.specs.Specification.{Specification}
use Rattle.token_protocol.specs.declared.granted.Granted.{Granted}
use Rattle.token_protocol.specs.Manager.{conflicting}
use Rattle.token_manager.specs.Alike.{take_alike}

-- each grant names the calls granted before that conflict with it
abbrev pub AreGrants : Specification → World → List Granted → Type 0
AreGrants d w granted =
    (i : ℕ) (g : Granted) → slice_get granted i ≡ Some g
    → g.after ≡ conflicting d w (take i granted) g.call

-- the grant of this number is that of a call with the tokens of a call
abbrev pub IsAlikeAt : Specification → World → List Granted → Call → ℕ → Type 0
IsAlikeAt d w granted call i =
    (g : Granted) × (slice_get granted i ≡ Some g) × (take_alike d w g.call call ≡ true)
