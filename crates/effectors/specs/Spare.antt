-- A second state beside one, to be written over: none, or one that fits and reads alike.
use Rattle.std.specs.Prelude.{◌≡◌, ⊤, true, Option, None, Some}
use Rattle.spec_core.specs.declared.world.World.{World}
use Rattle.spec_core.specs.Specification.{Specification}
use Rattle.spec_core.specs.State.{Listing, reads}
use Rattle.spec_core.specs.Fits.{is_state}

-- a state of the world that reads as another one
pub record IsTwin (d : Specification) (w : World) (s t : Listing) : Type 0 where
  pub alike : reads t ≡ reads s
  pub fits : is_state d w t ≡ true

-- there is no second state, or it is a twin
abbrev pub IsSpare : Specification → World → Listing → Option Listing → Type 0
IsSpare d w s None = ⊤
IsSpare d w s (Some t) = IsTwin d w s t
