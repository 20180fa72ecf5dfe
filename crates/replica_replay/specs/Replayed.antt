-- A replay: a specification, a world, and what is held in it.
use Rattle.spec_core.specs.declared.world.World.{World}
use Rattle.spec_core.specs.Specification.{Specification}
use Rattle.replica_replay.specs.Held.{Held}

-- what a replay is, for contracts
pub record Replayed : Type 0 where
  pub spec : Specification
  pub world : World
  pub held : Held
