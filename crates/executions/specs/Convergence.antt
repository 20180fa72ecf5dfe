-- What a specification means as a replicated system, and that it converges.
use Rattle.std.specs.Prelude.{◌≡◌, true}
use Rattle.spec_core.specs.declared.world.World.{World}
use Rattle.spec_core.specs.declared.world.Call.{Call}
use Rattle.spec_core.specs.Specification.{Specification}
use Rattle.spec_core.specs.State.{Listing, Reads, reads}
use Rattle.spec_core.specs.Meaning.{inv, pre, observed, initial}
use Rattle.spec_core.specs.Fits.{is_world, is_call, is_state}
use Rattle.effectors.specs.Effect.{after}
use Rattle.token_rules.specs.Conflict.{conflicts}
use Rattle.executions.specs.Executions.{System, SystemConverges}

-- The system of a specification in a world. Its states are what listed states read as, so that two states are equal where all
-- readings agree.
abbrev pub system_of : Specification → World → System
system_of d w = record {
  State = Reads;
  Call = Call;
  IsState = λ r. (s : Listing) × (is_state d w s ≡ true) × (reads s ≡ r);
  IsCall = λ c. is_call d w c ≡ true;
  initial = reads (initial d w);
  effect = after d w;
  Inv = λ r. inv d w r ≡ true;
  Pre = λ c r. pre d w c r ≡ true;
  Observed = λ c r. observed d w c r ≡ true;
  Conflict = λ a b. conflicts d w a b ≡ true;
}

-- a specification converges where its system does in every world
abbrev pub Converges : Specification → Type 0
Converges d = (w : World) → is_world d w ≡ true → SystemConverges (system_of d w)
